-- Each answer of `sent_count` is what is sent, by the pattern's exponent's field. Assumes nothing.
use Rattle.std.proofs.Common.{◌≡◌, ℕ, zero, suc, ◌+◌, ◌-◌, ◌*◌, ◌/◌, ◌%◌, ◌^◌, ◌<◌, ◌≤◌, min, Bool, true, false, cond, not, T, eqb, ◌⊎◌, sym, refl, ap, ◌∙◌, subst, inl, inr, lt_of_lt_of_le, mod-lt, zero-lt-suc, mul_assoc, mul_comm, add-mul, mul-le-mul, eq-or-lt_of_le, mul-pos, le-div_iff_mul-le, mul-one, mul_left_comm, arith, lit≤, pow_pos, pow_mono, pow-add, shl_lt}
use native.Mathlib.Nat.{add-div_right, div-div-eq-div-mul, div-eq_of_lt, pow-succ'}
use lib.Ieee.{Float, nan, inf, binary32, of_fields, of_bits, is_nan}
use lib.Ieee.Nearest.{div_same}
use Rattle.units.specs.SetSoc.{half_up, sent}
use Rattle.units.proofs.Values.{val, number}
use Rattle.units.proofs.Fields.{clear}

-- ---- below a half

val_low : (x t : ℕ) → x < 126 → t < 8388608 → val x t < 2 ^ 148
val_low zero t X H = subst (λ (v : ℕ). v < 2 ^ 148) (sym (mul-one t)) (lt_of_lt_of_le H (lit≤ tt))
val_low (suc x) t X H = lt_of_lt_of_le (shl_lt 24 x (omega arith)) (pow_mono (room x X))
  where
    room : (x : ℕ) → suc x < 126 → 24 + x ≤ 148
    room x X = omega arith

half_low : (v : ℕ) → v < 2 ^ 148 → min (half_up v (2 ^ 149)) 1000 ≡ 0
unfolding half_up
half_low v h = ap (λ (r : ℕ). min r 1000) (div-eq_of_lt (room v (2 ^ 148) (2 ^ 149) h refl))
  where
    room : (v h c : ℕ) → v < h → c ≡ 2 * h → 2 * v + c < 2 * c
    room v h c l e = omega arith

pub low : (b : ℕ) → b / 8388608 < 126 → sent (of_bits binary32 b) ≡ 0
low b h = number b (omega arith) ∙ half_low (val (b / 8388608) (b % 8388608)) (val_low (b / 8388608) (b % 8388608) h (mod-lt b (zero-lt-suc 8388607)))

-- ---- 1024 or more

val_high : (x t : ℕ) → 137 ≤ x → 2 ^ 159 ≤ val x t
val_high zero t X = absurd (none X)
  where
    none : 137 ≤ 0 → ⊥
    none h = omega arith
val_high (suc x) t X = mul-le-mul (from t) (pow_mono (room x X))
  where
    from : (t : ℕ) → 8388608 ≤ 8388608 + t
    from t = omega arith

    room : (x : ℕ) → 137 ≤ suc x → 136 ≤ x
    room x X = omega arith

half_high : (v : ℕ) → 2 ^ 159 ≤ v → min (half_up v (2 ^ 149)) 1000 ≡ 1000
unfolding half_up
half_high v h = capped ((2 * v + 2 ^ 149) / (2 * 2 ^ 149)) ((le-div_iff_mul-le (pow_pos 150)).1 (room v (2 ^ 149) h))
  where
    room : (v c : ℕ) → 1024 * c ≤ v → 1000 * (2 * c) ≤ 2 * v + c
    room v c l = omega arith

    capped : (r : ℕ) → 1000 ≤ r → min r 1000 ≡ 1000
    capped r l = omega arith

pub high : (b : ℕ) → 137 ≤ b / 8388608 → b / 8388608 < 255 → sent (of_bits binary32 b) ≡ 1000
high b h k = number b k ∙ half_high (val (b / 8388608) (b % 8388608)) (val_high (b / 8388608) (b % 8388608) h)

-- ---- between: the code's `rounded`

abbrev pub coded : ℕ → ℕ
coded b = ((b % 8388608 + 8388608) / 2 ^ (149 - b / 8388608) + 1) / 2

half_mid : (d x : ℕ) → suc x ≤ 149 → half_up (d * 2 ^ x) (2 ^ 149) ≡ (d / 2 ^ (149 - suc x) + 1) / 2
unfolding half_up
half_mid d x X =
    let p = 2 ^ x in
    let s = 2 ^ (149 - suc x) in
    let w : 149 ≡ 149 - suc x + suc x = omega arith in
    let c : 2 ^ 149 ≡ s * (2 * p) = ap (λ (e : ℕ). 2 ^ e) w ∙ pow-add 2 (149 - suc x) (suc x) ∙ ap (λ (m : ℕ). s * m) (pow-succ' 2 x) in
    let e1 : (2 * (d * p) + s * (2 * p)) * (s * 2) ≡ (d + s) * (2 * (s * (2 * p))) = same d p s in
    ap (λ (m : ℕ). (2 * (d * p) + m) / (2 * m)) c
    ∙ div_same (2 * (d * p) + s * (2 * p)) (2 * (s * (2 * p))) (d + s) (s * 2) (mul-pos (zero-lt-suc 1) (mul-pos (pow_pos (149 - suc x)) (mul-pos (zero-lt-suc 1) (pow_pos x)))) (mul-pos (pow_pos (149 - suc x)) (zero-lt-suc 1)) e1
    ∙ sym (div-div-eq-div-mul (d + s) s 2)
    ∙ ap (λ (m : ℕ). m / 2) (add-div_right d (pow_pos (149 - suc x)))
  where
    same : (d p s : ℕ) → (2 * (d * p) + s * (2 * p)) * (s * 2) ≡ (d + s) * (2 * (s * (2 * p)))
    same d p s =
        let a : 2 * (d * p) * (s * 2) ≡ d * (2 * (s * (2 * p))) = simp (mul_assoc, mul_comm, mul_left_comm) in
        let b : s * (2 * p) * (s * 2) ≡ s * (2 * (s * (2 * p))) = simp (mul_assoc, mul_comm, mul_left_comm) in
        add-mul (2 * (d * p)) (s * (2 * p)) (s * 2) ∙ ap (λ (m : ℕ). m + s * (2 * p) * (s * 2)) a ∙ ap (λ (m : ℕ). d * (2 * (s * (2 * p))) + m) b ∙ sym (add-mul d s (2 * (s * (2 * p))))

val_mid : (x t : ℕ) → 1 ≤ x → x ≤ 149 → half_up (val x t) (2 ^ 149) ≡ ((t + 8388608) / 2 ^ (149 - x) + 1) / 2
val_mid zero t X Y = absurd (none X)
  where
    none : 1 ≤ 0 → ⊥
    none h = omega arith
val_mid (suc x) t X Y = half_mid (8388608 + t) x Y ∙ ap (λ (d : ℕ). (d / 2 ^ (149 - suc x) + 1) / 2) (swap t)
  where
    swap : (t : ℕ) → 8388608 + t ≡ t + 8388608
    swap t = omega arith

pub mid : (b : ℕ) → 126 ≤ b / 8388608 → b / 8388608 < 137 → sent (of_bits binary32 b) ≡ min (coded b) 1000
mid b h k = number b (omega arith) ∙ ap (λ (r : ℕ). min r 1000) (val_mid (b / 8388608) (b % 8388608) (omega arith) (omega arith))

-- ---- the infinity

pub topmost : (b : ℕ) → b / 8388608 ≡ 255 → T (not (is_nan (of_bits binary32 b))) → sent (of_bits binary32 b) ≡ 1000
unfolding of_fields is_nan sent
topmost b e n =
    let is : of_bits binary32 b ≡ cond (eqb (b % 8388608) 0) (inf false) nan = clear b (omega arith) ∙ ap (λ (x : ℕ). of_fields binary32 false x (b % 8388608)) e in
    ap sent is ∙ go (eqb (b % 8388608) 0) (subst (λ (v : Float). T (not (is_nan v))) is n)
  where
    go : (t : Bool) → T (not (is_nan (cond t (inf false) nan))) → sent (cond t (inf false) nan) ≡ 1000
    go true k = refl
    go false k = absurd k

pub large : (b : ℕ) → b < 2147483648 → 137 ≤ b / 8388608 → T (not (is_nan (of_bits binary32 b))) → sent (of_bits binary32 b) ≡ 1000
large b s h n = go (eq-or-lt_of_le (most b s))
  where
    most : (b : ℕ) → b < 2147483648 → b / 8388608 ≤ 255
    most b s = omega arith

    go : (b / 8388608 ≡ 255) ⊎ (b / 8388608 < 255) → sent (of_bits binary32 b) ≡ 1000
    go (inl e) = topmost b e n
    go (inr l) = high b h l
