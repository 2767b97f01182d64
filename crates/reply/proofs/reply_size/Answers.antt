use mathlib.Core.Path.{sym, ap, ◌∙◌}
use Rattle.reply.specs.Output.{reply_size_for}
use borrow.Author.Tests.{ne_eqb}
use native.Mathlib.Omega.{arith}
use Rattle.reply.proofs.reply_size.Goals as goal

pub returns-in-149 : goal.returns-in-149
unfolding reply_size_for
returns-in-149 c = c.cell_voltages_reply_size.ensures ∙ ap (λ k. reply_size_for k c.args.count) (sym c.in-149.is)

pub returns-in-150 : goal.returns-in-150
unfolding reply_size_for
returns-in-150 c = c.cell_temperatures_reply_size.ensures ∙ ap (λ k. reply_size_for k c.args.count) (sym c.in-150.is)

pub returns-in_default : goal.returns-in_default
unfolding reply_size_for
returns-in_default c = rw (ne_eqb c.args.command 0x95 (omega arith), ne_eqb c.args.command 0x96 (omega arith))
