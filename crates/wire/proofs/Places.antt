-- How a struct lies in memory, by the machine that the proofs are about: its size, and where each field begins, in the order of
-- declaration. Assumes nothing.
use Prim.Native.Nat.{ℕ, zero, suc}
use mathlib.Core.List.{List, [], ◌∷◌}
use mathlib.Core.Option.{Option, some, none}
use mir.Syntax.{Ty}
use prog.Memory.{size, field_of}

-- where the fields from k on begin, at most `most` of them
abbrev before : Option (Ty × ℕ) → List ℕ → List ℕ
before none rest = []
before (some (field, at)) rest = at ∷ rest

abbrev begins : Ty → ℕ → ℕ → List ℕ
begins τ zero k = []
begins τ (suc most) k = before (field_of τ k) (begins τ most (suc k))

abbrev pub layout : Ty → List ℕ
layout τ = size τ ∷ begins τ 16 0
