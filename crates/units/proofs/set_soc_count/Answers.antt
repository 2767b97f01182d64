use lib.Ieee.{of_int, of_bits}
use Rattle.units.specs.SetSoc.{set_soc_count}
use Rattle.units.proofs.set_soc_count.Goals as goal

pub returns : goal.returns
unfolding set_soc_count of_int of_bits
returns c = c.sent_count.ensures
