-- Each contract of the crate allows one answer, but for the places of the array that no one sees. Assumes nothing.
use mathlib.Core.Path.{◌≡◌, refl}
use seplogic.Ra.Ura.{Ura}
use base.Logic.{SProp}
use prog.Memory.{Memory}
use prog.Routine.{Routine}
use types.Logic.{Logic}
use contract.Lifetimes.{Lfts}
use contract.Monad.{Fun, fact}
use denote.Triple.Clauses.{AtExit}
use denote.Triple.Entry.{Args}
use Rattle.wire.proofs.Decides.{Decides, both}
use Rattle.reader.specs.Lent.{AnsweredLent}
use Rattle.reader.specs.declared.pushing.Said.{Said}
use Rattle.reader.proofs.Promise.{told, shown, told_once, pushed_once}
use Rattle.reader.proofs.Agreeing.{LentDecides, answered_once}
use Rattle.pushes.proofs.daly_push_by_value.Reads as daly_push_by_value
use Rattle.pushes.proofs.daly_push_into.Reads as daly_push_into
use Rattle.pushes.specs.contracts.daly_push_lent as push_lent

daly_push_by_value-decides : Decides daly_push_by_value.Post (λ κs r s. both (told r) (shown r.said.status r.reader.counts r.reader.frames))
daly_push_by_value-decides κs a x y s t = pushed_once

daly_push_into-decides : Decides daly_push_into.Post (λ κs r s. both r (shown r.said.status r.counts s.0.now))
daly_push_into-decides κs a x y s t = told_once

-- of `daly_push_lent` the `ensures` is `AnsweredLent`, of the reader at entry, the chunk, the answer and the reader at exit
push_lent_says : {M : Type 1} {𝓤 : Ura M} (𝓛 : Logic 𝓤) (mem : Memory → SProp 𝓤) (run : Routine → Fun 𝓤) (κs : Lfts 2) (a : Args push_lent.signature κs) (r : Said) (out : AtExit push_lent.ended κs)
    → (push_lent.clauses 𝓛 mem run κs a).ensures tt r out ≡ fact 𝓤 (AnsweredLent a.0.now a.1.0.now r out.0.now)
push_lent_says 𝓛 mem run κs a r out = refl

daly_push_lent-decides : LentDecides
daly_push_lent-decides = answered_once
