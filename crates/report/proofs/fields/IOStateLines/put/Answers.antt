use Rattle.text.proofs.Pieces.{◌⨾◌}
use Rattle.report.proofs.fields.IOStateLines.put.Goals as goal

pub returns : goal.returns
returns c = (c.put_line.ensures ⨾ c.put_line-2.ensures ⨾ c.put_line-3.ensures ⨾ c.put_line-4.ensures) ⨾ (c.put_line-5.ensures ⨾ c.put_line-6.ensures ⨾ c.put_line-7.ensures ⨾ c.put_line-8.ensures)
