-- The bytes before a start byte. Assumes nothing.
use Rattle.std.specs.Prelude.{◌==◌, ◌||◌, Some, None}
use Rattle.std.specs.Option.{unwrap_or}
use Rattle.std.proofs.Common.{◌≡◌, ℕ, zero, suc, ◌+◌, ◌<◌, ◌≤◌, Bool, true, false, not, cond, fold, ltb, ltb-false, List, [], ◌∷◌, length, get_or, take, drop, sym, refl, ap, ◌∙◌, true≢false, arith, ne_eqb, zero-add, drop-drop, length-drop, ◌*◌, ◌/◌}
use Rattle.std.specs.List.{list_all, position, prefix_len}
use Rattle.std.specs.Simd.{first_chunks}
use Rattle.std.proofs.lemmas.List.Folds.{list_all_at}
use Rattle.std.proofs.lemmas.Bool.{or_parts}
use Rattle.std.proofs.lemmas.List.Sums.{position_or_len_is, prefix_len_passes, prefix_len-le-length}
use Rattle.reader.specs.Steps.{noise_in}

-- a byte that the search passes over
abbrev pub passed : ℕ → Bool
passed byte = not (byte == 0xA5)

no_start : (b : ℕ) → passed b ≡ true → b ≡ 0xA5 → ⊥
no_start b e z = true≢false (sym e ∙ ap passed z)

-- none of them is A5
pub before : (s : List ℕ) (k : ℕ) → k < noise_in s → get_or s k 0 ≡ 0xA5 → ⊥
before s k h = no_start (get_or s k 0) (prefix_len_passes passed s k 0 h)

pub few : (s : List ℕ) → noise_in s ≤ length s
few s = prefix_len-le-length passed s

-- there are some where the first is none
pub some : (s : List ℕ) → 0 < length s → (get_or s 0 0 ≡ 0xA5 → ⊥) → 0 < noise_in s
some [] h n = absurd (omega arith)
some (x ∷ xs) h n = rw (ne_eqb x 0xA5 n) (omega arith)

-- all of s
pub whole : (s : List ℕ) → ((k : ℕ) → k < length s → get_or s k 0 == 0xA5 ≡ false) → noise_in s ≡ length s
whole s h = position_or_len_is (λ byte. byte == 0xA5) s (length s) 0 (omega arith) h (λ l. absurd (omega arith))

one : (t : Bool) (n : ℕ) (xs : List ℕ) → (noise_in (take n xs) ≡ length (take n xs) → noise_in xs ≡ n + noise_in (drop n xs))
    → cond t (1 + noise_in (take n xs)) 0 ≡ suc (length (take n xs)) → cond t (1 + noise_in xs) 0 ≡ suc n + noise_in (drop n xs)
one true n xs r q = omega (arith, r (omega (arith, q)))
one false n xs r q = absurd (omega (arith, q))

-- behind n of them
pub on : (n : ℕ) (s : List ℕ) → n ≤ length s → noise_in (take n s) ≡ length (take n s) → noise_in s ≡ n + noise_in (drop n s)
on zero s b e = sym (zero-add (noise_in s))
on (suc n) [] b e = absurd (omega arith)
on (suc n) (x ∷ xs) b e = one (passed x) n xs (on n xs (omega arith)) e

-- each byte is passed
pub all_passed : (s : List ℕ) → list_all passed s ≡ true → noise_in s ≡ length s
all_passed s e = whole s (λ k l. go k l (get_or s k 0 == 0xA5) refl)
  where
    go : (k : ℕ) → k < length s → (t : Bool) → get_or s k 0 == 0xA5 ≡ t → get_or s k 0 == 0xA5 ≡ false
    go k l true p = absurd (true≢false (sym e ∙ list_all_at passed s k 0 l (ap not p)))
    go k l false p = p

-- none is found, by a fold
pub none_found : (s : List ℕ) (a : Bool) → fold (λ found byte. found || byte == 0xA5) a s ≡ false → (a ≡ false) × (noise_in s ≡ length s)
none_found [] a e = (e, refl)
none_found (x ∷ xs) a e =
    let r = none_found xs (a || x == 0xA5) e in
    let p = or_parts a (x == 0xA5) r.0 in
    (p.0, rw p.1 (omega (arith, r.1)))

pub quiet_block : (s : List ℕ) (r : Bool) → r ≡ not (fold (λ found byte. found || byte == 0xA5) false s) → r ≡ true → noise_in s ≡ length s
quiet_block s r e h = (none_found s false (go (fold (λ found byte. found || byte == 0xA5) false s) (sym e ∙ h))).1
  where
    go : (b : Bool) → not b ≡ true → b ≡ false
    go true q = absurd (true≢false (sym q))
    go false q = refl

-- 32 bytes without one, as the code has it
abbrev pub quiet : List ℕ → Bool
quiet block = not (fold (λ found byte. found || byte == 0xA5) false block)

step : (t : Bool) (k : ℕ) (s : List ℕ) → quiet (take 32 s) ≡ t → 32 ≤ length s
    → (noise_in (drop 32 s) ≡ 32 * prefix_len quiet (first_chunks 32 k (drop 32 s)) + noise_in (drop (32 * prefix_len quiet (first_chunks 32 k (drop 32 s))) (drop 32 s))) × (prefix_len quiet (first_chunks 32 k (drop 32 s)) ≤ k)
    → (noise_in s ≡ 32 * cond t (1 + prefix_len quiet (first_chunks 32 k (drop 32 s))) 0 + noise_in (drop (32 * cond t (1 + prefix_len quiet (first_chunks 32 k (drop 32 s))) 0) s)) × (cond t (1 + prefix_len quiet (first_chunks 32 k (drop 32 s))) 0 ≤ suc k)
step true k s e b h =
    let m : ℕ = prefix_len quiet (first_chunks 32 k (drop 32 s)) in
    let n : 32 + 32 * m ≡ 32 * (1 + m) = omega arith in
    let d : drop (32 * m) (drop 32 s) ≡ drop (32 * (1 + m)) s = drop-drop (32 * m) 32 s ∙ rw n in
    (omega (arith, on 32 s b (quiet_block (take 32 s) true (sym e) refl), h.0, ap noise_in d), omega (arith, h.1))
step false k s e b h = (sym (zero-add (noise_in s)), omega arith)

-- the blocks without one, from the front on, and what is behind them
pub blocks_on : (k : ℕ) (s : List ℕ) → 32 * k ≤ length s
    → (noise_in s ≡ 32 * prefix_len quiet (first_chunks 32 k s) + noise_in (drop (32 * prefix_len quiet (first_chunks 32 k s)) s)) × (prefix_len quiet (first_chunks 32 k s) ≤ k)
blocks_on zero s b = (sym (zero-add (noise_in s)), omega arith)
blocks_on (suc k) s b = step (quiet (take 32 s)) k s refl (omega arith) (blocks_on k (drop 32 s) (omega (arith, length-drop 32 s)))

-- of all blocks of s the first n are passed
pub blocks_passed : (s : List ℕ) (n : ℕ) → n ≡ prefix_len quiet (first_chunks 32 (length s / 32) s) → (noise_in s ≡ 32 * n + noise_in (drop (32 * n) s)) × (32 * n ≤ length s)
blocks_passed s n e = let h = blocks_on (length s / 32) s (omega arith) in rw e (h.0, omega (arith, h.1))

-- the search's answer, or the length
pub found : (s : List ℕ) → unwrap_or (position (λ byte. byte == 0xA5) s) (length s) ≡ noise_in s
found s = go (ltb (noise_in s) (length s)) refl
  where
    go : (t : Bool) → ltb (noise_in s) (length s) ≡ t → unwrap_or (cond t (Some (noise_in s)) None) (length s) ≡ noise_in s
    go true e = refl
    go false e = omega (arith, few s, ltb-false (noise_in s) (length s) e)
