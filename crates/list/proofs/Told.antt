-- From the statement of whoever stores to what C is told, and that this allows one answer and one exit. Assumes nothing.
use mathlib.Core.Path.{◌≡◌, ap, ◌∙◌}
use mathlib.Core.List.{List}
use Rattle.wire.proofs.Decides.{both, same-both}
use Prim.Native.Nat.{ℕ}
use Rattle.std.specs.Prelude.{Result}
use Rattle.frame.specs.declared.refusal.Refusal.{Refusal}
use Rattle.frame.specs.Refusals.{Check}
use Rattle.list.specs.Listed.{Stores, list_told, Tells}
use Rattle.list.specs.declared.ListTold.{ListTold}

module _ {A : Type 0} {check : Check} {values out exit : List A} {r : ListTold} where
  -- listed is what the decoder answered
  pub tells : {listed : Result ℕ Refusal} → Stores check values out listed exit → r ≡ list_told listed → Tells check values out r exit
  tells d e = record { answer = e ∙ ap list_told d.answer; left = d.left }

  pub tells_one : {q : ListTold} {other : List A} → Tells check values out r exit → Tells check values out q other → both r exit ≡ both q other
  tells_one p q = same-both p.answer p.left q.answer q.left
