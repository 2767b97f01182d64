use Rattle.std.proofs.Common.{rules}
use mir.Syntax.{w32}
use mir.Val.{SFits}
use mir.Facts.{to_z-of_z}
use Rattle.text.proofs.Pieces.{◌⨾◌}
use Rattle.report.proofs.fields.SocCountsLines.put.Goals as goal

pub returns : goal.returns
returns c =
    let fits : SFits w32 c.args.self.current = search rules in
    rw (← to_z-of_z fits) (c.put_line.ensures ⨾ c.put_line-2.ensures ⨾ c.put_line-3.ensures)
