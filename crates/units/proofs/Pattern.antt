-- The pattern k * 2 ^ 23 + q, for a q from 2 ^ 23 to 2 ^ 24, both included, stands for q * 2 ^ k units of 2 ^ -149: what `round` writes for them.
-- At q = 2 ^ 24 the carry goes into the exponent's field. Assumes nothing.
use Rattle.std.proofs.Common.{◌≡◌, ℕ, zero, suc, ◌+◌, ◌-◌, ◌*◌, ◌/◌, ◌%◌, ◌^◌, ◌<◌, ◌≤◌, Bool, false, cond, ◌⊎◌, sym, refl, ap, ◌∙◌, subst, inl, inr, lt_of_le_of_lt, zero-lt-suc, div-lt_iff_lt-mul, mul-le-mul, eq-or-lt_of_le, pow-suc, arith, lit<, pow_mono, lt-ltb}
use lib.Count.{count_trailing_zeros, under}
use lib.Ieee.{inf, fin, binary32, minus, odd, units, of_fields, of_bits}
use Rattle.units.proofs.Fields.{clear, under_ones}

-- by its field and its digits
fields : (x t : ℕ) → suc x < 255 → t < 8388608 → of_bits binary32 (suc x * 8388608 + t) ≡ odd 24 false (8388608 + t) x 149
fields x t X H =
    let b = suc x * 8388608 + t in
    let small : b < 2147483648 = omega arith in
    let field : b / 8388608 ≡ suc x = omega arith in
    let digits : b % 8388608 ≡ t = omega arith in
    clear b small
    ∙ ap (λ (y : ℕ). of_fields binary32 false y (b % 8388608)) field
    ∙ ap (λ (y : ℕ). of_fields binary32 false (suc x) y) digits
    ∙ under_ones t x X

-- ---- `odd` looks at one digit more than a number has

tz_more : (d q : ℕ) → 0 < q → q < 2 ^ d → count_trailing_zeros (suc d) q ≡ count_trailing_zeros d q
unfolding count_trailing_zeros
tz_more zero q p h = absurd (none q p h)
  where
    none : (q : ℕ) → 0 < q → q < 1 → ⊥
    none q p h = omega arith
tz_more (suc d) q p h = go (q % 2) refl (λ (e : q % 2 ≡ 0). tz_more d (q / 2) (half_pos q p e) ((div-lt_iff_lt-mul (zero-lt-suc 1)).1 (subst (λ (x : ℕ). q < x) (pow-suc 2 d) h)))
  where
    half_pos : (q : ℕ) → 0 < q → q % 2 ≡ 0 → 0 < q / 2
    half_pos q p e = omega arith

    go : (r : ℕ) → q % 2 ≡ r → (q % 2 ≡ 0 → count_trailing_zeros (suc d) (q / 2) ≡ count_trailing_zeros d (q / 2)) → under r (count_trailing_zeros (suc d) (q / 2)) ≡ under r (count_trailing_zeros d (q / 2))
    go zero e ih = ap suc (ih e)
    go (suc r) e ih = refl

odd-more : (q k : ℕ) → q < 2 ^ 24 → odd 24 false q k 149 ≡ odd 25 false q k 149
unfolding odd
odd-more zero k h = refl
odd-more (suc q) k h = ap (λ (t : ℕ). fin false (suc q / 2 ^ t) (minus (k + t) 149)) (sym (tz_more 24 (suc q) (zero-lt-suc q) h))

-- the carry
odd_top : (k : ℕ) → odd 24 false 8388608 (suc k) 149 ≡ odd 25 false 16777216 k 149
unfolding odd
odd_top k = ap (λ (x : ℕ). fin false 1 (minus x 149)) (one k)
  where
    one : (k : ℕ) → suc k + 23 ≡ k + 24
    one k = omega arith

pub pattern : (k q : ℕ) → k < 250 → 8388608 ≤ q → q ≤ 16777216 → of_bits binary32 (k * 8388608 + q) ≡ odd 25 false q k 149
pattern k q K lo hi = go (eq-or-lt_of_le hi)
  where
    go : (q ≡ 16777216) ⊎ (q < 16777216) → of_bits binary32 (k * 8388608 + q) ≡ odd 25 false q k 149
    go (inl e) =
        ap (of_bits binary32) (omega arith)
        ∙ fields (suc k) 0 (omega arith) (omega arith)
        ∙ odd_top k
        ∙ ap (λ (x : ℕ). odd 25 false x k 149) (sym e)
    go (inr l) =
        ap (of_bits binary32) (omega arith)
        ∙ fields k (q - 8388608) (omega arith) (omega arith)
        ∙ ap (λ (x : ℕ). odd 24 false x k 149) (omega arith)
        ∙ odd-more q k l

-- ---- far below the infinity `units` writes just that

pub units-is : (q k : ℕ) → q ≤ 16777216 → k ≤ 200 → units binary32 false q k ≡ odd 25 false q k 149
unfolding units
units-is q k a b =
    ap (λ (t : Bool). cond t (odd 25 false q k 149) (inf false))
    (lt-ltb (q * 2 ^ k) (2 ^ 277) (lt_of_le_of_lt (mul-le-mul a (pow_mono b)) (lit< tt)))
