use Rattle.text.proofs.Pieces.{puts_digit, puts_tens}
use Rattle.text.proofs.Text.+put_decimal.Goals as goal
use Rattle.text.proofs.Text.+put_decimal.Goals.{then-n-ge10, else-n-ge10}

pub returns : goal.returns
returns t c = elim c.if-n-ge10.branch [
  | then-n-ge10 w ↦ puts_tens c.args.n w.if-n-ge10.true c.ranges.n.fits w.self-is w.put_decimal.ensures c.put_byte.ensures
  | else-n-ge10 w ↦ puts_digit c.args.n w.if-n-ge10.false w.self-is c.put_byte.ensures
]
