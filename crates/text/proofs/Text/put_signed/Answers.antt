use Rattle.std.proofs.Common.{◌∙◌}
use Rattle.text.proofs.Below.{puts_below, puts_above}
use Rattle.text.proofs.Text.put_signed.Goals as goal
use Rattle.text.proofs.Text.put_signed.Goals.{then-z-lt0, else-z-lt0}

pub returns : goal.returns
returns c =
    let n = c.from.ensures ∙ c.unsigned_abs.ensures.value in
    elim c.if-z-lt0.branch [
      | then-z-lt0 w ↦ puts_below c.args.z c.ranges.z w.if-z-lt0.true n w.self-is w.put_byte.ensures c.put_decimal.ensures
      | else-z-lt0 w ↦ puts_above c.args.z c.ranges.z w.if-z-lt0.false n w.self-is c.put_decimal.ensures
    ]
