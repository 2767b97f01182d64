-- What a writer says that it has stored is the reply: the bytes to hand to a decoder, no more and no fewer. Assumes nothing.
use mathlib.Core.Path.{◌≡◌, sym, ap, ◌∙◌}
use mathlib.Core.List.{List}
use Prim.Native.Nat.{ℕ}
use lib.ListN.{length, take, drop}
use lib.Seq.{take_at}
use Rattle.std.specs.Prelude.{Result, Ok}
use Rattle.frame.specs.Refusals.{Check}
use Rattle.frame.specs.declared.refusal.Refusal.{Refusal}
use Rattle.list.specs.Listed.{Stores}
use Rattle.list.proofs.Decoding.{was_stored}

-- of any writer's statement: `WritesFrame`, `WritesMosfetStatus`, `WritesCells`, `WritesSensors` and `WritesBalance` are such
pub written : (check : Check) (reply out exit : List ℕ) (r : Result ℕ Refusal) (n : ℕ) → Stores check reply out r exit → r ≡ Ok n → take n exit ≡ reply
written check reply out exit r n p s =
    let w = was_stored check p s in
    ap (take n) w.2 ∙ take_at reply (drop (length reply) out) n (sym w.1)
