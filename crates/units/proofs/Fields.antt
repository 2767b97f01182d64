-- What a bit pattern of an `f32` is read as, by its exponent's field and its digits. Assumes nothing.
use Rattle.std.proofs.Common.{◌≡◌, ℕ, suc, ◌+◌, ◌/◌, ◌%◌, ◌<◌, Bool, false, cond, eqb, leb, refl, ap, ◌∙◌, mod-eq_of_lt, arith, ne_eqb}
use borrow.Author.Tests.{lt-leb}
use lib.Ieee.{nan, inf, binary32, odd, of_fields, of_bits}

pub of-fields : (b : ℕ) → of_bits binary32 b ≡ of_fields binary32 (leb 2147483648 b) (b % 2147483648 / 8388608) (b % 8388608)
unfolding of_bits
of-fields b = refl

-- the sign's bit is clear
pub clear : (b : ℕ) → b < 2147483648 → of_bits binary32 b ≡ of_fields binary32 false (b / 8388608) (b % 8388608)
clear b h =
    of-fields b
    ∙ ap (λ (s : Bool). of_fields binary32 s (b % 2147483648 / 8388608) (b % 8388608)) (lt-leb 2147483648 b h)
    ∙ ap (λ (y : ℕ). of_fields binary32 false (y / 8388608) (b % 8388608)) (mod-eq_of_lt h)

-- the exponent's field is neither 0 nor all ones
pub under_ones : (t x : ℕ) → suc x < 255 → of_fields binary32 false (suc x) t ≡ odd 24 false (8388608 + t) x 149
unfolding of_fields
under_ones t x h = ap (λ (b : Bool). cond b (cond (eqb t 0) (inf false) nan) (odd 24 false (8388608 + t) x 149)) (ne_eqb (suc x) 255 (differ x h))
  where
    differ : (x : ℕ) → suc x < 255 → suc x ≡ 255 → ⊥
    differ x h e = omega arith
