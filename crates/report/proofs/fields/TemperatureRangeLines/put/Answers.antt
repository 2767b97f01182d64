use Rattle.std.proofs.Common.{rules}
use mir.Syntax.{w8}
use mir.Val.{SFits}
use mir.Facts.{to_z-of_z}
use Rattle.text.proofs.Pieces.{◌⨾◌}
use Rattle.report.proofs.fields.TemperatureRangeLines.put.Goals as goal

pub returns : goal.returns
returns c =
    let high : SFits w8 c.args.self.highest_temperature = search rules in
    let low : SFits w8 c.args.self.lowest_temperature = search rules in
    rw (← to_z-of_z high, ← to_z-of_z low) (c.put_line.ensures ⨾ c.put_line-2.ensures ⨾ c.put_line-3.ensures ⨾ c.put_line-4.ensures)
