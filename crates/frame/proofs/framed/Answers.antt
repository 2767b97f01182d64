use Rattle.frame.proofs.Whole.{whole}
use Rattle.std.proofs.Common.{rules}
use Rattle.frame.proofs.framed.Goals as goal

pub returns : goal.returns
returns c = whole _ _ _ (search rules) c.calc_crc.ensures
