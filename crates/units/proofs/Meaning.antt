-- What the rounding of `SetSoc` means, beside its definition `half_up`: for x = a / b, r is the one whole number with r − 1/2 ≤ x < r + 1/2.
-- Both sides are multiplied by 2 * b, and the halves brought to x's side. And what is sent lies in 0..1000. Assumes nothing.
use Rattle.std.proofs.Common.{◌≡◌, ℕ, ◌+◌, ◌*◌, ◌<◌, ◌≤◌, true, false, ℤ, pos, negsuc, zero-le, le_refl, zero-lt-suc, add-mul, mul-pos, one-mul, div-mul-le_self, arith}
use native.Mathlib.Nat.{lt-div-mul-add, div-eq_of_lt-le}
use lib.Ieee.{Float, nan, inf, fin, up, down}
use Rattle.units.specs.SetSoc.{half_up, half_away, limit, sent}

-- r − 1/2 ≤ a / b, and a / b < r + 1/2
pub record Rounds (a b r : ℕ) : Type 0 where
  pub not_above : r * (2 * b) ≤ 2 * a + b
  pub not_below : 2 * a + b < r * (2 * b) + 2 * b

pub half_up_rounds : (a b : ℕ) → 0 < b → Rounds a b (half_up a b)
unfolding half_up
half_up_rounds a b B =
    record
    { not_above = div-mul-le_self (2 * a + b) (2 * b); not_below = lt-div-mul-add (mul-pos (zero-lt-suc 1) B) }

pub half_up-only : (a b r : ℕ) → Rounds a b r → half_up a b ≡ r
unfolding half_up
half_up-only a b r h = div-eq_of_lt-le (2 * b) h.not_above (omega (arith, add-mul r 1 (2 * b), one-mul (2 * b), h.not_below))

limited : (z : ℤ) → limit z ≤ 1000
unfolding limit
limited (pos n) = omega arith
limited (negsuc n) = zero-le

pub sent_limited : (y : Float) → sent y ≤ 1000
unfolding sent
sent_limited nan = zero-le
sent_limited (inf true) = zero-le
sent_limited (inf false) = le_refl 1000
sent_limited (fin s m e) = limited (half_away s (m * up e) (down e))
