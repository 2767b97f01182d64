use Rattle.std.proofs.Common.{rules, ◌∙◌, sym}
use Rattle.report.specs.Lines.{refused_line}
use Rattle.report.specs.Report.{answer_text}
use Rattle.report.proofs.Laws.{puts_first, puts_second}
use Rattle.report.proofs.report.Goals as goal
use Rattle.report.proofs.report.Goals.{then-status-from, else-status-from}

pub returns : goal.returns
returns c =
    let a = c.args in
    let other = answer_text a.command a.count a.reply.now in
    elim c.if-status-from.branch [
      | then-status-from w ↦ (let p = puts_first (refused_line 2) other (w.if-status-from.true ∙ c.from.ensures) w.text-is c.put.ensures w.put_refusal.ensures in search (rules, p))
      | else-status-from w ↦ (let p = puts_second (refused_line 2) other (λ e. w.if-status-from.false (e ∙ sym c.from.ensures)) w.text-is c.put.ensures w.put_answer.ensures in search (rules, p))
    ]
