-- A `u32` rounded to an `f32`, from its leading zeros. Assumes nothing.
use Rattle.std.proofs.Common.{◌≡◌, ℕ, suc, ◌+◌, ◌-◌, ◌*◌, ◌/◌, ◌%◌, ◌^◌, ◌<◌, ◌≤◌, false, not, T, pos, sym, ap, ◌∙◌, subst, le_trans, le_of_eq, lt_of_lt_of_le, mul-le-mul_right, mod-lt, mod-eq_of_lt, zero-lt-suc, mul_assoc, le_antisymm, mul-lt-mul_of_pos_right, one-mul, lt_of_not-le, not-le_of_lt, div-one, arith, eqb→eq, ltb→lt, leb→le, pow_pos, pow_mono, pow-add}
use Prim.Native.Nat.{compare, Ordering}
use lib.Dec.{is_le, compare_is_eq, nleb→lt, not_T}
use lib.Count.{count_leading_zeros, leading_top}
use lib.Ieee.Bits.{nan_bits_above}
use lib.Ieee.{binary32, size, nearest, units, of_int, of_bits, nan_bits}
use lib.Ieee.Digits.{size-lt, size-le}
use lib.Ieee.Fits.{eq→eqb, round_is}
use lib.Ieee.Nearest.{closest, closest_same}
use Rattle.units.proofs.Pattern.{pattern, units-is}

-- ---- x / 256 to the nearest whole number, a tie to the even one, as the code has it

pub up : ℕ → ℕ
up x = (x % 256 + 127 + x / 256 % 2) / 256

moved : (q r : ℕ) → r < 256 → nearest q (compare (r * 2) 256) ≡ q + (r + 127 + q % 2) / 256
moved q r h = go (compare (r * 2) 256) (leb→le (r * 2) 256) (nleb→lt (r * 2) 256) (eqb→eq (r * 2) 256) (λ (e : r * 2 ≡ 256). eq→eqb e)
  where
    go : (o : Ordering) → (T (is_le o) → r * 2 ≤ 256) → (T (not (is_le o)) → 256 < r * 2) → (T (compare_is_eq o) → r * 2 ≡ 256) → (r * 2 ≡ 256 → T (compare_is_eq o)) → nearest q o ≡ q + (r + 127 + q % 2) / 256
    go Ordering.lt le gt eq ne = omega (arith, le tt, ne)
    go Ordering.eq le gt eq ne = omega (arith, eq tt)
    go Ordering.gt le gt eq ne = omega (arith, gt tt)

-- ---- how many digits a number has

size_is : (a n : ℕ) → 2 ^ a ≤ n → n < 2 ^ suc a → size n ≡ suc a
size_is a n lo hi =
    le_antisymm (size-le n (suc a) hi) (lt_of_not-le (λ (g : size n ≤ a). not-le_of_lt (lt_of_lt_of_le (size-lt n) (pow_mono g)) lo))

-- ---- n has j + 1 digits, with z zeros above them to make 32

module _ (n j z : ℕ) (make : z + suc j ≡ 32) (lo : 2 ^ j ≤ n) (hi : n < 2 ^ suc j) where
  -- moved to the top
  x_lo : 2147483648 ≤ n * 2 ^ z
  x_lo =
      let e : 31 ≡ j + z = omega arith in
      le_trans (le_of_eq (ap (λ (e : ℕ). 2 ^ e) e ∙ pow-add 2 j z)) (mul-le-mul_right (2 ^ z) lo)

  pub x_hi : n * 2 ^ z < 4294967296
  x_hi =
      let e : suc j + z ≡ 32 = omega arith in
      lt_of_lt_of_le (mul-lt-mul_of_pos_right hi (pow_pos z)) (le_of_eq (sym (pow-add 2 (suc j) z) ∙ ap (λ (e : ℕ). 2 ^ e) e))

  dropped : size (n * 2 ^ 149 / 1) - 24 ≡ 157 - z
  dropped =
      let s : size (n * 2 ^ 149) ≡ suc (j + 149) = size_is (j + 149) (n * 2 ^ 149)
      (le_trans (le_of_eq (pow-add 2 j 149)) (mul-le-mul_right (2 ^ 149) lo))
      (lt_of_lt_of_le (mul-lt-mul_of_pos_right hi (pow_pos 149)) (le_of_eq (sym (pow-add 2 (suc j) 149) ∙ ap (λ (e : ℕ). 2 ^ e) (omega arith)))) in
      ap (λ (m : ℕ). size m - 24) (div-one (n * 2 ^ 149)) ∙ omega (arith, s)

  -- n in units of 2 ^ -149, over 2 ^ (157 - z), is the moved number over 2 ^ 8
  same_fraction : n * 2 ^ 149 * 256 ≡ n * 2 ^ z * (1 * 2 ^ (157 - z))
  same_fraction =
      let e : 157 ≡ z + (157 - z) = omega arith in
      mul_assoc n (2 ^ 149) 256
      ∙ ap (λ (m : ℕ). n * m) (ap (λ (e : ℕ). 2 ^ e) e ∙ pow-add 2 z (157 - z) ∙ ap (λ (m : ℕ). 2 ^ z * m) (sym (one-mul (2 ^ (157 - z)))))
      ∙ sym (mul_assoc n (2 ^ z) (1 * 2 ^ (157 - z)))

  q_is : closest (n * 2 ^ 149) (1 * 2 ^ (157 - z)) ≡ n * 2 ^ z / 256 + up (n * 2 ^ z)
  unfolding up
  q_is =
      closest_same (n * 2 ^ 149) (1 * 2 ^ (157 - z)) (n * 2 ^ z) 256 (subst (λ (m : ℕ). 0 < m) (sym (one-mul (2 ^ (157 - z)))) (pow_pos (157 - z))) (zero-lt-suc 255) same_fraction
      ∙ moved (n * 2 ^ z / 256) (n * 2 ^ z % 256) (mod-lt (n * 2 ^ z) (zero-lt-suc 255))

  pub rounded : of_bits binary32 ((157 - z) * 8388608 + (n * 2 ^ z / 256 + up (n * 2 ^ z))) ≡ of_int binary32 (pos n)
  unfolding up of_int
  rounded =
      let x = n * 2 ^ z in
      let q = x / 256 + up x in
      let a : 8388608 ≤ q = omega (arith, x_lo) in
      let b : q ≤ 16777216 = omega (arith, x_hi) in
      sym (round_is binary32 false n 1
      ∙ ap (λ (k : ℕ). units binary32 false (closest (n * 2 ^ 149) (1 * 2 ^ k)) k) dropped
      ∙ ap (λ (m : ℕ). units binary32 false m (157 - z)) q_is
      ∙ units-is q (157 - z) b (omega arith)
      ∙ sym (pattern (157 - z) q (omega arith) a b))

-- ---- the pattern as the code computes it, from the zeros z and the moved number x

abbrev pub coded : ℕ → ℕ → ℕ
coded z x = (157 - z) * 8388608 % 4294967296 + x / 256 + (x % 256 + 127 + x / 256 % 2) / 256

pub coded_is : (z x : ℕ) → x < 4294967296 → coded z x ≡ (157 - z) * 8388608 + (x / 256 + up x)
unfolding up
coded_is z x h = omega arith

pub coded_no_nan : (z x : ℕ) → x < 4294967296 → T (not (nan_bits binary32 (coded z x)))
coded_no_nan z x h =
    let b = coded z x in
    let small : b ≤ 2139095040 = omega arith in
    not_T (nan_bits binary32 b) (λ (t : T (nan_bits binary32 b)). clash b small (ltb→lt 2139095040 (b % 2147483648) (subst T (nan_bits_above binary32 b) t)))
  where
    clash : (b : ℕ) → b ≤ 2139095040 → 2139095040 < b % 2147483648 → ⊥
    clash b h k = omega arith

-- ---- the whole: a number above 0, and its leading zeros as the machine counts them

pub moved_up : (n : ℕ) → 0 < n → n < 2 ^ 32 → count_leading_zeros 32 n < 32
moved_up n p h = let t = leading_top 32 n p h in omega (arith, t.1)

pub nearest-is : (n : ℕ) → 0 < n → n < 2 ^ 32 → of_bits binary32 (coded (count_leading_zeros 32 n) (n * 2 ^ count_leading_zeros 32 n % 4294967296)) ≡ of_int binary32 (pos n)
nearest-is n p h =
    let t = leading_top 32 n p h in
    let z = count_leading_zeros 32 n in
    let small = x_hi n t.0 z t.1 t.2 t.3 in
    ap (λ (x : ℕ). of_bits binary32 (coded z x)) (mod-eq_of_lt small)
    ∙ ap (of_bits binary32) (coded_is z (n * 2 ^ z) small)
    ∙ rounded n t.0 z t.1 t.2 t.3
