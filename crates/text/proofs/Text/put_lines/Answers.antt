use Rattle.std.proofs.Common.{rules}
use Rattle.text.specs.Text.{shown_line}
use Rattle.text.proofs.Pieces.{puts-none}
use Rattle.text.proofs.Each.{puts_each}
use Rattle.text.proofs.Text.put_lines.Goals as goal

pub loop-value-init : goal.loop-value-init
loop-value-init g c = puts-none _ (search rules) (search rules)

pub loop-value-preserved : goal.loop-value-preserved
loop-value-preserved g c =
    puts_each (λ v. shown_line c.args.name.now (g.T.Shown.shown v)) c.args.values.now c.loop-value.value-index c.value-item.result c.loop-value-test.true c.value-item.is c.loop-value.invariant c.put_line.ensures
