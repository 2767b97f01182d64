use Rattle.text.specs.Text.{shown_line}
use Rattle.text.proofs.Pieces.{puts_then}
use Rattle.text.proofs.Text.put_line.Goals as goal

pub returns : goal.returns
unfolding shown_line
returns g c = puts_then c.put_field.ensures c.put_byte.ensures
