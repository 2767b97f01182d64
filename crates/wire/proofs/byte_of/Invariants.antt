use Prim.Native.Nat.{ℕ, ◌≤◌, ◌+◌, min}
use mathlib.Core.Bool.{Bool, false}
use mathlib.Core.List.{List}
use mathlib.Core.Path.{◌≡◌}
use lib.ListN.{get_or, drop}
use Rattle.wire.specs.Bytes.{packed}
use Rattle.wire.specs.Lists.{firsts}
use Rattle.wire.proofs.byte_of.Given as goal

-- the flags that become the byte
abbrev pub chosen : List Bool → ℕ → ℕ → List Bool
chosen flags from n = firsts (λ j. get_or flags (from + j) false) (min n 8)

abbrev pub invariant-loop-k : goal.invariant-loop-k
invariant-loop-k l = (l.k ≤ min l.n 8) × (l.byte ≡ packed (drop l.k (chosen l.flags l.from l.n)))
