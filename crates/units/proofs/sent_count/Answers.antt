use Rattle.std.proofs.Common.{◌≡◌, ℕ, ◌+◌, ◌-◌, ◌/◌, ◌%◌, min, true, not, T, sym, refl, ap, ◌∙◌, subst, true≢false, arith}
use lib.Pow.{shr_le}
use lib.Ieee.{Float, nan, inf, fin, binary32, is_nan, of_bits, to_bits, fits}
use lib.Ieee.Bits.{of_bits-to_bits}
use Rattle.units.specs.SetSoc.{sent}
use Rattle.units.proofs.Values.{negative}
use Rattle.units.proofs.Rounds.{low, mid, large, coded}
use Rattle.units.proofs.sent_count.Goals as goal

-- beside the answers, as the two below: no other file uses them
of_nan : (y : Float) → true ≡ is_nan y → 0 ≡ sent y
unfolding sent is_nan
of_nan nan h = refl
of_nan (inf s) h = absurd (true≢false h)
of_nan (fin s m e) h = absurd (true≢false h)

-- what owning an `f32` tells: the format holds it, so it is what its bits are read as
read : (v : Float) → fits binary32 v ≡ true → of_bits binary32 (to_bits binary32 v) ≡ v
read v w = of_bits-to_bits binary32 v (subst T (sym w) tt)

sends : (v : Float) → fits binary32 v ≡ true → (r : ℕ) → sent (of_bits binary32 (to_bits binary32 v)) ≡ r → r ≡ sent v
sends v w r e = sym e ∙ ap sent (read v w)

pub returns-then-is_nan : goal.returns-then-is_nan
returns-then-is_nan c = of_nan c.args.product c.if-is_nan.ensures.value

pub float_to_bits-bits : goal.float_to_bits-bits
float_to_bits-bits c = c.if-is_nan.ensures.not_nan

pub returns-then-bits-ge2147483648 : goal.returns-then-bits-ge2147483648
returns-then-bits-ge2147483648 c = sends c.args.product c.well_formed.0.1 0 (negative (to_bits binary32 c.args.product) c.if-bits-ge2147483648.true)

pub returns-then-exponent-lt126 : goal.returns-then-exponent-lt126
returns-then-exponent-lt126 c =
    sends c.args.product c.well_formed.0.1 0 (low (to_bits binary32 c.args.product) c.if-exponent-lt126.true)

pub returns-then-exponent-ge137 : goal.returns-then-exponent-ge137
returns-then-exponent-ge137 c =
    sends c.args.product c.well_formed.0.1 1000 (large (to_bits binary32 c.args.product) c.if-bits-ge2147483648.false c.if-exponent-ge137.true
    (subst (λ (v : Float). T (not (is_nan v))) (sym (read c.args.product c.well_formed.0.1)) c.if-is_nan.ensures.not_nan))

pub overflow_add-rounded : goal.overflow_add-rounded
overflow_add-rounded c =
    let b = to_bits binary32 c.args.product in
    omega (arith, shr_le (b % 8388608 + 8388608) (149 - b / 8388608))

pub returns : goal.returns
returns c =
    let b = to_bits binary32 c.args.product in
    c.min.ensures ∙ sends c.args.product c.well_formed.0.1 (min (coded b) 1000) (mid b c.if-exponent-lt126.false c.if-exponent-ge137.false)
