use Rattle.std.proofs.Common.{arith}
use Rattle.reader.proofs.pushing.missing_after.Goals as goal

pub overflow_sub-result : goal.overflow_sub-result
overflow_sub-result c =
    omega (arith, c.requires c.if-status-eq8.false)

pub returns : goal.returns
returns c =
    let h = c.requires c.if-status-eq8.false in ((λ z. absurd (c.if-status-eq8.false z)), (λ n l. absurd (omega (arith, l, c.if-next.false))), (λ n l. omega (arith, h)))
