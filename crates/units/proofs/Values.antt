-- What a bit pattern of an `f32` stands for, by its exponent's field x and its digits t, and what `sent` makes of it. Assumes nothing.
use Rattle.std.proofs.Common.{◌≡◌, ℕ, zero, suc, ◌+◌, ◌*◌, ◌/◌, ◌%◌, ◌^◌, ◌<◌, ◌≤◌, min, Bool, true, false, cond, eqb, ℤ, pos, neg_ℤ, sym, refl, ap, ◌∙◌, subst, true≢false, zero-lt-suc, mul_assoc, mul_comm, add-mul, mul-pos, mul_left_comm, arith, pow_pos, le-leb}
use lib.Ieee.{Float, nan, inf, fin, binary32, up, down, odd, of_fields, of_bits}
use lib.Ieee.Fits.{down_pos}
use lib.Ieee.Exact.{HasValue, odd_sign}
use lib.Ieee.Nearest.{div_same}
use Rattle.units.proofs.Fields.{of-fields, clear, under_ones}
use Rattle.units.specs.SetSoc.{half_up, limit, sent}

-- ---- a finite pattern's number, in units of 2 ^ -149

abbrev pub val : ℕ → ℕ → ℕ
val zero t = t * 2 ^ 0
val (suc x) t = (8388608 + t) * 2 ^ x

pub fields_val : (x t : ℕ) → x < 255 → HasValue (of_fields binary32 false x t) false (val x t) (2 ^ 149)
unfolding of_fields
fields_val zero t h = odd_sign 24 false t 0 149
fields_val (suc x) t h = subst (λ (v : Float). HasValue v false ((8388608 + t) * 2 ^ x) (2 ^ 149)) (sym (under_ones t x h)) (odd_sign 24 false (8388608 + t) x 149)

-- ---- `sent` sees the number alone

half_up-same : (a b c d : ℕ) → 0 < b → 0 < d → a * d ≡ c * b → half_up a b ≡ half_up c d
unfolding half_up
half_up-same a b c d B D e =
    let p : 2 * a * (2 * d) ≡ 2 * (2 * (a * d)) = simp (mul_assoc, mul_comm, mul_left_comm) in
    let q : 2 * c * (2 * b) ≡ 2 * (2 * (c * b)) = simp (mul_assoc, mul_comm, mul_left_comm) in
    let r : b * (2 * d) ≡ d * (2 * b) = simp (mul_assoc, mul_comm, mul_left_comm) in
    let u : (2 * a + b) * (2 * d) ≡ (2 * c + d) * (2 * b) = omega (arith, add-mul (2 * a) b (2 * d), add-mul (2 * c) d (2 * b)) in
    div_same (2 * a + b) (2 * b) (2 * c + d) (2 * d) (mul-pos (zero-lt-suc 1) B) (mul-pos (zero-lt-suc 1) D) u

pub sent_val : (y : Float) (v c : ℕ) → 0 < c → HasValue y false v c → sent y ≡ min (half_up v c) 1000
unfolding sent
sent_val nan v c C h = absurd h
sent_val (inf s) v c C h = absurd h
sent_val (fin true m e) v c C h = absurd (true≢false h.0)
sent_val (fin false m e) v c C h = ap (λ (r : ℕ). min r 1000) (half_up-same (m * up e) (down e) v c (down_pos e) C h.1)

-- ---- what is sent for the three kinds of pattern: a number, the infinity, and one with the sign's bit set

pub number : (b : ℕ) → b / 8388608 < 255 → sent (of_bits binary32 b) ≡ min (half_up (val (b / 8388608) (b % 8388608)) (2 ^ 149)) 1000
number b h =
    ap sent (clear b (omega arith))
    ∙ sent_val (of_fields binary32 false (b / 8388608) (b % 8388608)) (val (b / 8388608) (b % 8388608)) (2 ^ 149) (pow_pos 149) (fields_val (b / 8388608) (b % 8388608) h)

limit_neg : (n : ℕ) → limit (neg_ℤ (pos n)) ≡ 0
unfolding limit
limit_neg zero = refl
limit_neg (suc n) = refl

sent_neg : (m : ℕ) (e : ℤ) → sent (fin true m e) ≡ 0
unfolding sent
sent_neg m e = limit_neg (half_up (m * up e) (down e))

odd_neg : (q k : ℕ) → sent (odd 24 true q k 149) ≡ 0
unfolding odd
odd_neg zero k = sent_neg _ _
odd_neg (suc q) k = sent_neg _ _

fields_neg : (x t : ℕ) → sent (of_fields binary32 true x t) ≡ 0
unfolding of_fields sent
fields_neg zero t = odd_neg t 0
fields_neg (suc x) t = go (eqb (suc x) 255) (eqb t 0)
  where
    go : (a b : Bool) → sent (cond a (cond b (inf true) nan) (odd 24 true (8388608 + t) x 149)) ≡ 0
    go true true = refl
    go true false = refl
    go false b = odd_neg (8388608 + t) x

pub negative : (b : ℕ) → 2147483648 ≤ b → sent (of_bits binary32 b) ≡ 0
negative b h =
    ap sent (of-fields b ∙ ap (λ (s : Bool). of_fields binary32 s (b % 2147483648 / 8388608) (b % 8388608)) (le-leb 2147483648 b h))
    ∙ fields_neg (b % 2147483648 / 8388608) (b % 8388608)
