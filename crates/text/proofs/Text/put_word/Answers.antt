use Rattle.std.proofs.Common.{rules}
use Rattle.text.proofs.Pieces.{puts-none, puts-more}
use Rattle.text.proofs.Text.put_word.Goals as goal

pub loop-byte-init : goal.loop-byte-init
loop-byte-init c = puts-none _ (search rules) (search rules)

pub loop-byte-preserved : goal.loop-byte-preserved
loop-byte-preserved c = puts-more _ c.loop-byte-test.true c.loop-byte.invariant c.put_byte.ensures
