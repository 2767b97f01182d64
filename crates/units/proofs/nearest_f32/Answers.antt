use Rattle.std.proofs.Common.{◌≡◌, ℕ, ◌*◌, ◌%◌, ◌^◌, pos, sym, refl, subst, mod-lt, arith, pow_pos}
use lib.Count.{count_leading_zeros, leading_le}
use lib.Ieee.{binary32, of_int, of_bits}
use Rattle.units.proofs.Rounded.{moved_up, nearest-is, coded_no_nan}
use Rattle.units.proofs.nearest_f32.Goals as goal

-- beside the answers, since none but the first uses it
of_zero : (n : ℕ) → n ≡ 0 → of_bits binary32 0 ≡ of_int binary32 (pos n)
unfolding of_bits of_int
of_zero n e = subst (λ (m : ℕ). of_bits binary32 0 ≡ of_int binary32 (pos m)) (sym e) refl

pub returns-then-count-eq0 : goal.returns-then-count-eq0
returns-then-count-eq0 c = of_zero c.args.count c.if-count-eq0.true

pub overflow_shl-shifted : goal.overflow_shl-shifted
overflow_shl-shifted c = moved_up c.args.count (omega arith) c.ranges.count.fits

pub overflow_sub-result : goal.overflow_sub-result
overflow_sub-result c = omega (arith, leading_le 32 c.args.count)

pub float_from_bits-result : goal.float_from_bits-result
float_from_bits-result c =
    let n = c.args.count in
    let z = count_leading_zeros 32 n in
    coded_no_nan z (n * 2 ^ z % 2 ^ 32) (mod-lt (n * 2 ^ z) (pow_pos 32))

pub returns : goal.returns
returns c = nearest-is c.args.count (omega arith) c.ranges.count.fits
