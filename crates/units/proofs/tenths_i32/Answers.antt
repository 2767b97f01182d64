use Rattle.std.proofs.Common.{pos, ap, ◌∙◌, to_z-of_z}
use lib.Ieee.{Float, binary32, div, of_int, of_bits}
use Rattle.units.proofs.tenths_i32.Goals as goal

pub returns-then-unsigned_abs-gt16777216 : goal.returns-then-unsigned_abs-gt16777216
unfolding of_int of_bits
returns-then-unsigned_abs-gt16777216 c =
    ap (λ (x : Float). div binary32 x (of_int binary32 (pos 10)))
    (c.nearest_i32_to_f32.ensures ∙ ap (of_int binary32) (to_z-of_z c.ranges.count))

pub returns : goal.returns
unfolding of_int of_bits
returns c =
    ap (λ (x : Float). div binary32 x (of_int binary32 (pos 10))) (ap (of_int binary32) (to_z-of_z c.ranges.count))
