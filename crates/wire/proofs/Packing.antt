-- Flags as the bits of a number: bit k is flag k, and n flags stay below 2^n. Assumes nothing.
use mathlib.Core.Path.{◌≡◌, sym, ap, ◌∙◌}
use mathlib.Core.Bool.{Bool, true, false, not}
use mathlib.Core.List.{List, [], ◌∷◌}
use Prim.Native.Nat.{ℕ, zero, suc, ◌+◌, ◌*◌, ◌/◌, ◌%◌, ◌^◌, ◌-◌, ◌≤◌, ◌<◌}
use native.Mathlib.Nat.{zero-div, div-div-eq-div-mul, pow-succ'}
use native.Mathlib.Omega.{arith}
use lib.Dec.{eqb}
use lib.ListN.{length, get_or, drop, length-drop}
use lib.Seq.{drop-cons}
use Rattle.wire.specs.Bytes.{bit, flag_byte, packed, byte_of}
use Rattle.wire.specs.Lists.{firsts}
use Rattle.wire.proofs.Firsts.{length-firsts, get_or-firsts}

half : (b : Bool) (n : ℕ) → (flag_byte b + 2 * n) / 2 ≡ n
half true n = omega arith
half false n = omega arith

-- THE LAW OF BITS
pub bit_back : (bs : List Bool) (k : ℕ) → bit (packed bs) k ≡ get_or bs k false
bit_back [] k = rw (zero-div (2 ^ k))
bit_back (b ∷ bs) zero = go b
  where
    go : (b : Bool) → bit (flag_byte b + 2 * packed bs) 0 ≡ b
    go true = let e : (1 + 2 * packed bs) / 1 % 2 ≡ 1 = omega arith in rw e
    go false = let e : (0 + 2 * packed bs) / 1 % 2 ≡ 0 = omega arith in rw e
bit_back (b ∷ bs) (suc k) =
    let h : (flag_byte b + 2 * packed bs) / 2 ≡ packed bs = half b (packed bs) in
    let e : (flag_byte b + 2 * packed bs) / 2 ^ suc k ≡ packed bs / 2 ^ k =
    ap (λ (n : ℕ). (flag_byte b + 2 * packed bs) / n) (pow-succ' 2 k)
    ∙ sym (div-div-eq-div-mul (flag_byte b + 2 * packed bs) 2 (2 ^ k))
    ∙ ap (λ (n : ℕ). n / 2 ^ k) h in
    ap (λ (n : ℕ). not (eqb (n % 2) 0)) e ∙ bit_back bs k

-- flag from + k of the byte of n flags that begins at `from`
pub byte_back : (flags : List Bool) (from n k : ℕ) → k < n → bit (byte_of flags from n) k ≡ get_or flags (from + k) false
byte_back flags from n k h = bit_back (firsts (λ j. get_or flags (from + j) false) n) k ∙ get_or-firsts (λ j. get_or flags (from + j) false) n k false h

pub flag_small : (b : Bool) → flag_byte b ≤ 1
flag_small true = omega arith
flag_small false = omega arith

pub packed-small : (bs : List Bool) (n : ℕ) → length bs ≤ n → packed bs < 2 ^ n
packed-small [] zero h = omega arith
packed-small [] (suc n) h = omega (arith, packed-small [] n (omega arith), pow-succ' 2 n)
packed-small (b ∷ bs) zero h = absurd (omega arith)
packed-small (b ∷ bs) (suc n) h = omega (arith, packed-small bs n (omega arith), pow-succ' 2 n, flag_small b)

-- the flags from k on, as the loop packs them: one flag more before them
pub packed_more : (flags : List Bool) (from n k : ℕ) {byte flag : ℕ} → 0 < k → k ≤ n
    → byte ≡ packed (drop k (firsts (λ j. get_or flags (from + j) false) n)) → flag ≡ flag_byte (get_or flags (from + (k - 1)) false)
    → 2 * byte + flag ≡ packed (drop (k - 1) (firsts (λ j. get_or flags (from + j) false) n))
packed_more flags from n zero h m e d = absurd (omega arith)
packed_more flags from n (suc k) {byte} {flag} h m e d =
    let f : ℕ → Bool = λ j. get_or flags (from + j) false in
    let s : packed (drop k (firsts f n)) ≡ flag_byte (f k) + 2 * packed (drop (suc k) (firsts f n)) =
    ap packed (drop-cons (firsts f n) k false (omega (arith, length-firsts f n)))
    ∙ ap (λ (b : Bool). flag_byte b + 2 * packed (drop (suc k) (firsts f n))) (get_or-firsts f n k false (omega arith)) in
    let q : suc k - 1 ≡ k = omega arith in
    let d' : flag ≡ flag_byte (f k) = rw q at d in
    rw q (omega (arith, s, e, d'))

-- before its last turn the loop has packed seven of eight at most
pub packed-room : (flags : List Bool) (from n k : ℕ) → n ≤ 8 → 0 < k → packed (drop k (firsts (λ j. get_or flags (from + j) false) n)) < 128
packed-room flags from n k m h =
    let f : ℕ → Bool = λ j. get_or flags (from + j) false in
    packed-small (drop k (firsts f n)) 7 (omega (arith, length-drop k (firsts f n), length-firsts f n))
