use Rattle.text.proofs.Pieces.{puts_then}
use Rattle.text.proofs.Text.put_name.Goals as goal

pub returns : goal.returns
returns c = puts_then c.put_word.ensures c.put_byte.ensures
