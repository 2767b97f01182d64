use Rattle.text.specs.Text.{shown_field}
use Rattle.text.proofs.Pieces.{puts_then}
use Rattle.text.proofs.Text.put_field.Goals as goal

pub returns : goal.returns
unfolding shown_field
returns g c = puts_then c.put_name.ensures c.put.ensures
