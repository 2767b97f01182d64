use Rattle.std.proofs.Common.{pos, ap}
use lib.Ieee.{Float, binary32, div, of_int, of_bits}
use Rattle.units.proofs.tenths_u16.Goals as goal

pub returns : goal.returns
unfolding of_int of_bits
returns c = ap (λ (x : Float). div binary32 x (of_int binary32 (pos 10))) c.from.ensures
