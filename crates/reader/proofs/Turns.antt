-- What a scan over a slice comes to, and the laws by which a turn of its loop is one line.
-- Assumes nothing.
use Rattle.std.specs.Prelude.{if◌then◌else◌}
use Rattle.std.proofs.Common.{◌≡◌, ℕ, zero, suc, ◌+◌, ◌-◌, ◌*◌, ◌<◌, ◌≤◌, Bool, true, false, eqb, ltb, List, [], ◌∷◌, ◌++◌, length, get_or, take, drop, set, sym, refl, ap, ◌∙◌, arith, length-drop, length-set, drop_of_length-le, get_or-set_other, get_or-set_same, drop-drop, ltb-false, ltb-true, le-ltb, eq-eqb, eqb-true, le-leb}
use mathlib.Core.Option.{none, some}
use lib.Seq.{paste, set_out}
use borrow.Author.Tests.{lt-leb, eqb-false}
use Rattle.wire.specs.Bytes.{byte_at}
use Rattle.rules.specs.Rules.{Config, Why, noise, wrong_sum, wrong_command, wrong_number, echo, span, Fate, discarded, collected, size, lost, judge, look, restarts, stay, after, drops}
use Rattle.rules.specs.Ledger.{line, next, Outcome, halt, enter, run, total, discards, place, lost_for, discards_for, clears}
use Rattle.rules.specs.Reader.{wrap, complete}
use Rattle.rules.proofs.Run.{run-stop, run_more}
use Rattle.rules.proofs.Recut.{look-complete, look-held}
use Rattle.rules.proofs.Good.{look-noise}
use Rattle.reader.specs.View.{chop}
use Rattle.reader.proofs.Parts.{length-chop}
use Rattle.reader.specs.View.{seat}
use Rattle.reader.proofs.Parts.{window, length_window, first_of, chop_copied}
use Rattle.reader.specs.Steps.{Ran, noise_in}
use Rattle.reader.proofs.Noise.{before, few}
use Rattle.reader.proofs.Judge.{stays}

-- ---- the loop

-- what d bytes discarded for a reason add to the count of each
abbrev gains : Why → ℕ → Why → ℕ
gains y d z = if eqb (place z) (place y) then d else 0

-- the run from here on, with what was counted so far, comes to what the run from the start comes to
pub record Ahead (o₀ : Outcome) (t₀ : List ℕ) (o : Outcome) (l x : ℕ) (n : Why → ℕ) : Type 0 where
  pub collected : o₀.collected ≡ o.collected
  pub rest : o₀.rest ≡ o.rest
  pub lost : discards o₀.ledger ≡ l + discards o.ledger
  pub cleared : wrap (get_or t₀ 6 0 + clears o₀.ledger) ≡ wrap (x + clears o.ledger)
  pub why : (y : Why) → wrap (get_or t₀ (seat y) 0 + discards_for y o₀.ledger) ≡ wrap (n y + discards_for y o.ledger)

-- other numbers that are the same modulo 2^32
recount : {o₀ : Outcome} {t₀ : List ℕ} {o : Outcome} {l x : ℕ} {n : Why → ℕ} (x' : ℕ) (n' : Why → ℕ) → wrap x' ≡ wrap x → ((y : Why) → wrap (n' y) ≡ wrap (n y))
    → Ahead o₀ t₀ o l x n → Ahead o₀ t₀ o l x' n'
recount x' n' e f h =
    record { collected = h.collected; rest = h.rest; lost = h.lost; cleared = omega (arith, h.cleared, e); why = λ y. omega (arith, h.why y, f y) }

-- 13 bytes that begin with A5 are judged
look-judge : (c : Config) (kept : List (List ℕ)) (p : List ℕ) → complete c kept ≡ false → 13 ≤ length p → byte_at p 0 ≡ 0xA5
    → look c (length kept) p ≡ some (judge c (length kept) (take 13 p))
unfolding look complete
look-judge c kept [] e l h = absurd (omega arith)
look-judge c kept (x ∷ xs) e l h = rw (e, eq-eqb x 0xA5 h, le-ltb (length (x ∷ xs)) 13 l)

pub is_open : (c : Config) (have : ℕ) (f : List ℕ) → have < c.wanted → complete c (chop have f) ≡ false
unfolding complete
is_open c have f h = rw length-chop (lt-leb c.wanted have h)

pub is_complete : (c : Config) (have : ℕ) (f : List ℕ) → c.wanted ≤ have → complete c (chop have f) ≡ true
unfolding complete
is_complete c have f h = rw length-chop (le-leb c.wanted have h)

module _ (c : Config) (o₀ : Outcome) (t₀ : List ℕ) where
  -- one turn
  ahead_turn : (kept : List (List ℕ)) (p : List ℕ) (l x : ℕ) (n : Why → ℕ) (a : Fate) → look c (length kept) p ≡ some a → Ahead o₀ t₀ (run c kept p) l x n
      → Ahead o₀ t₀ (run c (next c kept p a) (drop (size a) p)) (l + lost a) (x + drops c a (take (size a) p) kept) (λ y. n y + lost_for y a)
  unfolding total
  ahead_turn kept p l x n a e h =
      let d : ℕ = drops c a (take (size a) p) kept in
      let o : Outcome = run c (next c kept p a) (drop (size a) p) in
      let g : Ahead o₀ t₀ (enter (line c kept p a) o) l x n = rw (run_more c kept p a e) at h in
      record { collected = g.collected; rest = g.rest; lost = omega (arith, g.lost); cleared = omega (arith, g.cleared); why = λ y. omega (arith, g.why y) }

  -- a turn that discards
  ahead_discarded : (kept : List (List ℕ)) (p : List ℕ) (l x : ℕ) (n : Why → ℕ) (y : Why) → look c (length kept) p ≡ some (discarded y) → Ahead o₀ t₀ (run c kept p) l x n
      → Ahead o₀ t₀ (run c kept (drop (span y) p)) (l + span y) x (λ z. n z + gains y (span y) z)
  unfolding after drops lost_for
  ahead_discarded kept p l x n y e h =
      let g = ahead_turn kept p l x n (discarded y) e h in
      record { collected = g.collected; rest = g.rest; lost = g.lost; cleared = omega (arith, g.cleared); why = g.why }

  -- k bytes of noise
  ahead_noise : (k : ℕ) (kept : List (List ℕ)) (p : List ℕ) (l x : ℕ) (n : Why → ℕ) → complete c kept ≡ false → k ≤ length p → ((i : ℕ) → i < k → get_or p i 0 ≡ 0xA5 → ⊥)
      → Ahead o₀ t₀ (run c kept p) l x n → Ahead o₀ t₀ (run c kept (drop k p)) (l + k) x (λ z. n z + gains noise k z)
  ahead_noise zero kept p l x n e b q h =
      record { collected = h.collected; rest = h.rest; lost = omega (arith, h.lost); cleared = h.cleared; why = λ y. omega (arith, h.why y, none_gained y) }
    where
      none_gained : (y : Why) → gains noise 0 y ≡ 0
      none_gained noise = refl
      none_gained wrong_sum = refl
      none_gained wrong_command = refl
      none_gained wrong_number = refl
      none_gained echo = refl
  ahead_noise (suc k) kept [] l x n e b q h = absurd (omega arith)
  ahead_noise (suc k) kept (y ∷ ys) l x n e b q h =
      let g = ahead_discarded kept (y ∷ ys) l x n noise (look-noise c kept (y ∷ ys) e (omega arith) (q 0 (omega arith))) h in
      let r = ahead_noise k kept ys (l + 1) x (λ z. n z + gains noise 1 z) e (omega arith) (λ i j. q (suc i) (omega arith)) g in
      record { collected = r.collected; rest = r.rest; lost = omega (arith, r.lost); cleared = r.cleared; why = λ z. omega (arith, r.why z, one_more z) }
    where
      one_more : (z : Why) → gains noise 1 z + gains noise k z ≡ gains noise (suc k) z
      one_more noise = omega arith
      one_more wrong_sum = refl
      one_more wrong_command = refl
      one_more wrong_number = refl
      one_more echo = refl

-- ---- a count that is stored

place-few : (y : Why) → place y < 5
place-few noise = omega arith
place-few wrong_sum = omega arith
place-few wrong_command = omega arith
place-few wrong_number = omega arith
place-few echo = omega arith

seat-set : (t : List ℕ) (y : Why) (v d : ℕ) → length t ≡ 7 → v ≡ wrap (get_or t (seat y) 0 + d) → (z : Why) → wrap (get_or (set t (seat y) v) (seat z) 0) ≡ wrap (get_or t (seat z) 0 + gains y d z)
seat-set t y v d e h z = go (eqb (place z) (place y)) refl
  where
    go : (b : Bool) → eqb (place z) (place y) ≡ b → wrap (get_or (set t (seat y) v) (seat z) 0) ≡ wrap (get_or t (seat z) 0 + (if b then d else 0))
    go true q =
        let p : seat z ≡ seat y = omega (arith, eqb-true (place z) (place y) q) in
        rw (p, get_or-set_same t (seat y) v 0 (omega (arith, place-few y))) (omega (arith, h))
    go false q =
        rw (get_or-set_other t (seat y) (seat z) v 0 (λ r. eqb-false (place z) (place y) q (omega arith))) (omega arith)

-- what is stored is below 2^32, and the rest is as it was
set-small : (t : List ℕ) (k v : ℕ) → v < 4294967296 → ((i : ℕ) → get_or t i 0 < 4294967296) → (i : ℕ) → get_or (set t k v) i 0 < 4294967296
set-small t k v b h i = go (eqb i k) refl
  where
    at_k : get_or (set t k v) k 0 < 4294967296
    at_k = in? (ltb k (length t)) refl
      where
        in? : (q : Bool) → ltb k (length t) ≡ q → get_or (set t k v) k 0 < 4294967296
        in? true e = rw (get_or-set_same t k v 0 (ltb-true k (length t) e)) b
        in? false e = rw (set_out t k v (ltb-false k (length t) e)) (h k)

    go : (q : Bool) → eqb i k ≡ q → get_or (set t k v) i 0 < 4294967296
    go true e = rw (eqb-true i k e) at_k
    go false e = rw (get_or-set_other t k i v 0 (eqb-false i k e)) (h i)

-- the invariant: the scan of s stands at `at`, with `have` frames of f, has counted l in all, and brought the tally from t₀ to t
pub record Here (c : Config) (o₀ : Outcome) (t₀ s f : List ℕ) (have at l : ℕ) (t : List ℕ) : Type 0 where
  pub ahead : Ahead o₀ t₀ (run c (chop have f) (drop at s)) l (get_or t 6 0) (λ y. get_or t (seat y) 0)
  pub taken : get_or t 0 0 ≡ get_or t₀ 0 0
  pub long : length t ≡ 7
  pub small : ((i : ℕ) → get_or t₀ i 0 < 4294967296) → (i : ℕ) → get_or t i 0 < 4294967296

pub here-start : (c : Config) (t s f : List ℕ) (have at : ℕ) → length t ≡ 7 → Here c (run c (chop have f) (drop at s)) t s f have at 0 t
here-start c t s f have at e =
    record { ahead = record { collected = refl; rest = refl; lost = omega arith; cleared = refl; why = λ y. refl }; taken = refl; long = e; small = λ h. h }

module _ (c : Config) (o₀ : Outcome) (t₀ s f : List ℕ) (have at l : ℕ) (t : List ℕ) (here : Here c o₀ t₀ s f have at l t) where
  -- a reason's count is stored
  here-lost : (y : Why) (d at' l' : ℕ) (u : List ℕ) → u ≡ set t (seat y) (wrap (get_or t (seat y) 0 + d))
      → Ahead o₀ t₀ (run c (chop have f) (drop at' s)) l' (get_or t 6 0) (λ z. get_or t (seat z) 0 + gains y d z) → Here c o₀ t₀ s f have at' l' u
  here-lost y d at' l' u e a =
      let v : ℕ = wrap (get_or t (seat y) 0 + d) in
      rw e
      record {
        ahead = recount _ _ (ap wrap (get_or-set_other t (seat y) 6 v 0 (λ q. omega (arith, place-few y)))) (seat-set t y v d here.long refl) a;
        taken = get_or-set_other t (seat y) 0 v 0 (λ q. omega arith) ∙ here.taken;
        long = length-set t (seat y) v ∙ here.long;
        small = λ h. set-small t (seat y) v (omega arith) (here.small h);
      }

  -- the bytes before the next A5 are passed at once
  pub here_quiet : (n : ℕ) (u : List ℕ) → have < c.wanted → n ≡ noise_in (drop at s) → u ≡ set t 1 (wrap (get_or t 1 0 + n)) → Here c o₀ t₀ s f have (at + n) (l + n) u
  here_quiet n u w k e =
      here-lost noise n (at + n) (l + n) u e
      (rw (← drop-drop n at s) (ahead_noise c o₀ t₀ n (chop have f) (drop at s) l (get_or t 6 0) (λ y. get_or t (seat y) 0) (is_open c have f w) (omega (arith, k, few (drop at s))) (λ i h. before (drop at s) i (omega (arith, h, k))) here.ahead))

  module _ (w : have < c.wanted) (b : at + 13 ≤ length s) (z : get_or s at 0 ≡ 0xA5) where
    judged : look c (length (chop have f)) (drop at s) ≡ some (judge c have (window s at))
    judged =
        look-judge c (chop have f) (drop at s) (is_open c have f w) (omega (arith, length-drop at s)) (first_of s at ∙ z)
        ∙ ap (λ (n : ℕ). some (judge c n (window s at))) (length-chop have f)

    -- bytes are discarded for a reason
    pub here-discarded : (y : Why) (p d : ℕ) (u : List ℕ) → discarded y ≡ judge c have (window s at) → p ≡ seat y → d ≡ span y → u ≡ set t p (wrap (get_or t p 0 + d)) → Here c o₀ t₀ s f have (at + d) (l + d) u
    here-discarded y p d u q i j k =
        rw j
        (here-lost y (span y) (at + span y) (l + span y) u (rw (i, j) at k)
        (rw (← drop-drop (span y) at s) (ahead_discarded c o₀ t₀ (chop have f) (drop at s) l (get_or t 6 0) (λ z. get_or t (seat z) 0) y (judged ∙ ap (λ (a : Fate). some a) (sym q)) here.ahead)))

    -- a frame is collected behind the first k
    pub here-collected : (k : ℕ) (u g : List ℕ) → collected ≡ judge c have (window s at) → k ≡ (if restarts c (window s at) then 0 else have)
        → g ≡ paste f (13 * k) (window s at) 13 → 13 * k + 13 ≤ length f → u ≡ set t 6 (wrap (get_or t 6 0 + (have - k))) → Here c o₀ t₀ s g (k + 1) (at + 13) l u
    unfolding after lost_for
    here-collected k u g e ke ge room ue =
        let v : ℕ = wrap (get_or t 6 0 + (have - k)) in
        let q = stays c (window s at) f have k ke in
        let n : Why → ℕ = λ y. get_or t (seat y) 0 in
        let a : Ahead o₀ t₀ (run c (stay c (window s at) (chop have f) ++ (window s at ∷ [])) (drop 13 (drop at s))) (l + 0) (get_or t 6 0 + drops c collected (window s at) (chop have f)) (λ y. n y + 0) =
        ahead_turn c o₀ t₀ (chop have f) (drop at s) l (get_or t 6 0) n collected (judged ∙ ap (λ (x : Fate). some x) (sym e)) here.ahead in
        let h : Ahead o₀ t₀ (run c (chop (k + 1) g) (drop (at + 13) s)) (l + 0) (get_or t 6 0 + (have - k)) (λ y. n y + 0) =
        rw (ge, chop_copied f (window s at) k room (length_window s at b), ← q.0, ← q.1, ← drop-drop 13 at s) a in
        let r : Ahead o₀ t₀ (run c (chop (k + 1) g) (drop (at + 13) s)) (l + 0) (get_or (set t 6 v) 6 0) (λ y. get_or (set t 6 v) (seat y) 0) =
        recount _ _ (rw (get_or-set_same t 6 v 0 (omega (arith, here.long))) (omega arith)) (λ y. rw (get_or-set_other t 6 (seat y) v 0 (λ z. omega (arith, place-few y))) (omega arith)) h in
        rw ue
        record {
          ahead = record { collected = r.collected; rest = r.rest; lost = omega (arith, r.lost); cleared = r.cleared; why = r.why };
          taken = get_or-set_other t 6 0 v 0 (λ z. omega arith) ∙ here.taken;
          long = length-set t 6 v ∙ here.long;
          small = λ h. set-small t 6 v (omega arith) (here.small h);
        }

  -- where no turn is possible the scan is at its end
  pub here_end : look c (length (chop have f)) (drop at s) ≡ none → at ≤ length s → l ≤ at
      → Ran o₀ t₀ t s f record { at = at; lost = l; collected = have }
  unfolding total
  here_end e b m =
      let g : Ahead o₀ t₀ (halt (chop have f) (drop at s)) l (get_or t 6 0) (λ y. get_or t (seat y) 0) = rw (run-stop c (chop have f) (drop at s) e) at here.ahead in
      record {
        collected = g.collected;
        rest = g.rest;
        lost = omega (arith, g.lost);
        tally = record { taken = here.taken; cleared = omega (arith, g.cleared); long = here.long; small = here.small; lost = λ y. omega (arith, g.why y) };
        within = b;
        less = m;
      }

module _ (c : Config) (s f : List ℕ) (have at : ℕ) where
  pub end-complete : c.wanted ≤ have → look c (length (chop have f)) (drop at s) ≡ none
  end-complete h = look-complete c (chop have f) (drop at s) (is_complete c have f h)

  pub end-bytes : length s ≤ at → look c (length (chop have f)) (drop at s) ≡ none
  unfolding look
  end-bytes h = rw (drop_of_length-le s {i = at} h)

  pub end_short : have < c.wanted → length s - at < 13 → get_or s at 0 ≡ 0xA5 → look c (length (chop have f)) (drop at s) ≡ none
  end_short w h z = look-held c (chop have f) (is_open c have f w) (drop at s) (omega (arith, length-drop at s)) (λ i. first_of s at ∙ z)
