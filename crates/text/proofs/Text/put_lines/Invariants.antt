use lib.ListN.{take}
use Rattle.text.specs.Text.{shown_line}
use Rattle.text.specs.Putting.{Puts}
use Rattle.text.specs.Text.{each}
use Rattle.text.proofs.Text.put_lines.Given as goal

abbrev pub invariant-loop-value : goal.invariant-loop-value
invariant-loop-value g l = Puts l.initial.self (each (λ v. shown_line l.name (g.T.Shown.shown v)) (take l.value-index l.values)) l.self
