use Rattle.text.specs.Text.{hex2}
use Rattle.text.proofs.Pieces.{puts_then}
use Rattle.text.proofs.Text.put_hex2.Goals as goal

pub returns : goal.returns
unfolding hex2
returns c = rw (← c.hex_digit.ensures, ← c.hex_digit-2.ensures) (puts_then c.put_byte.ensures c.put_byte-2.ensures)
