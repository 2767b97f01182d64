-- Valid frames, numbered in order and one behind the other, are collected just so, with anything behind them. Assumes nothing.
use Rattle.std.specs.Prelude.{if◌then◌else◌}
use mathlib.Core.Path.{◌≡◌, refl, sym, ap, ◌∙◌}
use mathlib.Core.Bool.{Bool, true, false, not, ◌&&◌, ◌||◌, true≢false}
use mathlib.Core.List.{List, [], ◌∷◌, ◌++◌, append_assoc, append-nil}
use mathlib.Core.Option.{none, some}
use mathlib.Core.Logic.{◌⊎◌, inl, inr}
use Prim.Native.Nat.{ℕ, suc, ◌+◌, ◌-◌, ◌*◌, ◌≤◌, ◌<◌}
use native.Mathlib.Nat.{add-zero, add-suc, suc-add, zero-add}
use native.Mathlib.Omega.{arith}
use lib.ListN.{length, take, drop, get_or, length-append}
use lib.Seq.{take_at, drop_at}
use lib.Dec.{leb, ltb, eqb}
use borrow.Author.Tests.{ltb-true, le-ltb, lt-ltb, lt-leb, le-leb, eqb-true, eq-eqb}
use Rattle.wire.specs.Bytes.{byte_at}
use Rattle.rules.specs.Rules.{Config, Why, noise, wrong_sum, wrong_command, wrong_number, echo, collected, sum_right, restarts, judge, look, stay, after, drops}
use Rattle.rules.specs.Ledger.{next, Outcome, run, total, discards, discards_for, clears}
use Rattle.rules.specs.Reader.{each, count_of, Reader, wrap, all_of, complete, fresh, held_of, untaken, did, booked, push, status, bad, completeness, joined}
use Rattle.rules.specs.Demand.{Valid, Numbered, answers}
use Rattle.rules.specs.Gathered.{gathered}
use Rattle.rules.proofs.Run.{run-stop, run_more}
use Rattle.rules.proofs.Five.{none-for}
use Rattle.rules.proofs.Complete.{tests, first, first-none}
use Rattle.rules.proofs.Good.{Good, Fits, good_fresh, good_push, over_same, still}
use Rattle.rules.proofs.Recut.{recuts}
use Rattle.rules.proofs.Demand.{good_not-bad, answers_good}

-- frames that are valid and numbered on, with n before them; `Numbered` where there are none
abbrev pub NumberedOn : Config → ℕ → List (List ℕ) → Type 0
NumberedOn c n fs = (i : ℕ) → i < length fs → Valid c (suc (n + i)) (get_or fs i [])

module _ (c : Config) where
  pub numbered_on : (fs : List (List ℕ)) → Numbered c fs → NumberedOn c 0 fs
  numbered_on fs v i h = rw (zero-add i) (v i h)

  first_valid : (n : ℕ) (f : List ℕ) (fs : List (List ℕ)) → NumberedOn c n (f ∷ fs) → Valid c (suc n) f
  first_valid n f fs v = rw (add-zero n) at (v 0 (omega arith))

  more_valid : (n : ℕ) (f : List ℕ) (fs : List (List ℕ)) → NumberedOn c n (f ∷ fs) → NumberedOn c (suc n) fs
  more_valid n f fs v i h = rw (add-suc n i, ← suc-add n i) at (v (suc i) (omega (arith, h)))

  -- ---- one frame

  -- its number is 1 or the next one: that is what is expected of it, whether it restarts or not
  in_place : (have n : ℕ) (f : List ℕ) → (n ≡ 0) ⊎ (n ≡ have) → Valid c (suc n) f
      → ltb 1 c.wanted && not (eqb (byte_at f 4) (suc (if restarts c f then 0 else have))) ≡ false
  unfolding restarts
  in_place have n f p v = go (ltb 1 c.wanted) (eqb (byte_at f 4) 1) refl refl
    where
      next-is : (n ≡ 0) ⊎ (n ≡ have) → 1 < c.wanted → eqb (byte_at f 4) 1 ≡ false → byte_at f 4 ≡ suc have
      next-is (inl z) h e = absurd (true≢false (sym (eq-eqb (byte_at f 4) 1 (v.number h ∙ ap suc z)) ∙ e))
      next-is (inr z) h e = v.number h ∙ ap suc z

      go : (a b : Bool) → ltb 1 c.wanted ≡ a → eqb (byte_at f 4) 1 ≡ b → a && not (eqb (byte_at f 4) (suc (if a && b then 0 else have))) ≡ false
      go false b e d = refl
      go true true e d = rw d
      go true false e d = rw (eq-eqb (byte_at f 4) (suc have) (next-is p (ltb-true 1 c.wanted e) d))

  -- in strict mode it is no echo
  not-echo : (f : List ℕ) → (c.strict ≡ true → byte_at f 1 ≡ 0x40 → ⊥) → c.strict && eqb (byte_at f 1) 0x40 ≡ false
  not-echo f s = go c.strict (eqb (byte_at f 1) 0x40) refl refl
    where
      go : (a b : Bool) → c.strict ≡ a → eqb (byte_at f 1) 0x40 ≡ b → a && b ≡ false
      go false b p q = refl
      go true false p q = refl
      go true true p q = absurd (s p (eqb-true (byte_at f 1) 0x40 q))

  judged : (have n : ℕ) (f : List ℕ) → (n ≡ 0) ⊎ (n ≡ have) → Valid c (suc n) f → judge c have f ≡ collected
  unfolding judge first sum_right
  judged have n f p v =
      first-none (tests c have f)
      (rw (eq-eqb _ _ v.total), (rw (eq-eqb _ _ v.command), (not-echo f v.sender, (in_place have n f p v, tt))))

  -- a valid frame at the front is what the next turn collects
  looked_at : (have n : ℕ) (f t : List ℕ) → have < c.wanted → (n ≡ 0) ⊎ (n ≡ have) → Valid c (suc n) f → look c have (f ++ t) ≡ some collected
  unfolding look
  looked_at have n [] t h p v = absurd (omega (arith, v.whole))
  looked_at have n (x ∷ xs) t h p v =
      let l : 13 ≤ length (x ∷ (xs ++ t)) = omega (arith, v.whole, length-append xs t) in
      rw (lt-leb c.wanted have h, eq-eqb x 0xA5 v.start, le-ltb (length (x ∷ (xs ++ t))) 13 l, take_at (x ∷ xs) t 13 v.whole, judged have n (x ∷ xs) p v)

  -- ---- what it leaves

  -- the next one drops none
  none_kept : (kept : List (List ℕ)) (f : List ℕ) → Valid c (suc (length kept)) f → restarts c f ≡ true → kept ≡ []
  unfolding restarts
  none_kept [] f v e = refl
  none_kept (k ∷ kept) f v e = absurd (go (ltb 1 c.wanted) (eqb (byte_at f 4) 1) refl refl e)
    where
      go : (a b : Bool) → ltb 1 c.wanted ≡ a → eqb (byte_at f 4) 1 ≡ b → a && b ≡ true → ⊥
      go true true p q r = omega (arith, v.number (ltb-true 1 c.wanted p), eqb-true (byte_at f 4) 1 q)
      go true false p q r = true≢false (sym r)
      go false b p q r = true≢false (sym r)

  stays : (kept : List (List ℕ)) (f : List ℕ) → Valid c (suc (length kept)) f → (after c collected f kept ≡ kept ++ (f ∷ [])) × (drops c collected f kept ≡ 0)
  unfolding after stay drops
  stays kept f v = go (restarts c f) (none_kept kept f v)
    where
      go : (b : Bool) → (b ≡ true → kept ≡ []) → ((if b then [] else kept) ++ (f ∷ []) ≡ kept ++ (f ∷ [])) × ((if b then length kept else 0) ≡ 0)
      go true h = let e : kept ≡ [] = h refl in (rw e, rw e)
      go false h = (refl, refl)

  -- number 1 drops them all
  no_restart : (kept : List (List ℕ)) (f : List ℕ) → length kept < c.wanted → Valid c 1 f → restarts c f ≡ false → kept ≡ []
  unfolding restarts
  no_restart [] f h v e = refl
  no_restart (k ∷ kept) f h v e =
      let l : 1 < c.wanted = omega (arith, h) in
      absurd (true≢false (sym (rw (lt-ltb 1 c.wanted l, eq-eqb (byte_at f 4) 1 (v.number l))) ∙ e))

  begins : (kept : List (List ℕ)) (f : List ℕ) → length kept < c.wanted → Valid c 1 f → (after c collected f kept ≡ f ∷ []) × (drops c collected f kept ≡ length kept)
  unfolding after stay drops
  begins kept f l v = go (restarts c f) (no_restart kept f l v)
    where
      go : (b : Bool) → (b ≡ false → kept ≡ []) → ((if b then [] else kept) ++ (f ∷ []) ≡ f ∷ []) × ((if b then length kept else 0) ≡ length kept)
      go true h = (refl, refl)
      go false h = let e : kept ≡ [] = h refl in (rw e, rw e)

  -- ---- all of them

  -- no turn is possible where all are there
  full : (have : ℕ) (t : List ℕ) → c.wanted ≤ have → look c have t ≡ none
  unfolding look
  full have [] h = refl
  full have (x ∷ xs) h = rw (le-leb c.wanted have h)

  -- what a run comes to that finds nothing but frames: they are collected, so many were dropped, and what stands behind them is left
  pub record Ran (frames : List (List ℕ)) (gone : ℕ) (behind : List ℕ) (o : Outcome) : Type 0 where
    pub collected : o.collected ≡ frames
    pub rest : o.rest ≡ behind
    pub lost : discards o.ledger ≡ 0
    pub dropped : clears o.ledger ≡ gone

  -- one turn that collects the frame f and leaves these
  turned : (kept left frames : List (List ℕ)) (f p t : List ℕ) (gone more : ℕ) → length f ≡ 13 → look c (length kept) (f ++ p) ≡ some collected
      → (after c collected f kept ≡ left) × (drops c collected f kept ≡ gone) → Ran frames more t (run c left p) → Ran frames (gone + more) t (run c kept (f ++ p))
  unfolding total
  turned kept left frames f p t gone more l e s r =
      let w : take 13 (f ++ p) ≡ f = take_at f p 13 l in
      let d : drop 13 (f ++ p) ≡ p = drop_at f p 13 l in
      let n : next c kept (f ++ p) collected ≡ left = ap (λ (x : List ℕ). after c collected x kept) w ∙ s.0 in
      let z : drops c collected (take 13 (f ++ p)) kept ≡ gone = ap (λ (x : List ℕ). drops c collected x kept) w ∙ s.1 in
      rw (run_more c kept (f ++ p) collected e, n, d)
      (record { collected = r.collected; rest = r.rest; lost = omega (arith, r.lost); dropped = omega (arith, z, r.dropped) })

  -- frames that are numbered on from those that are there
  pub run-frames : (fs kept : List (List ℕ)) (t : List ℕ) → length kept + length fs ≡ c.wanted → NumberedOn c (length kept) fs
      → Ran (kept ++ fs) 0 t (run c kept (joined fs ++ t))
  unfolding joined total
  run-frames [] kept t h v =
      rw (run-stop c kept t (full (length kept) t (omega arith)))
      (record { collected = sym (append-nil kept); rest = refl; lost = refl; dropped = refl })
  run-frames (f ∷ fs) kept t h v =
      let w : Valid c (suc (length kept)) f = first_valid (length kept) f fs v in
      let p : List ℕ = joined fs ++ t in
      let k : length (kept ++ (f ∷ [])) ≡ suc (length kept) = omega (arith, length-append kept (f ∷ [])) in
      let ih : Ran ((kept ++ (f ∷ [])) ++ fs) 0 t (run c (kept ++ (f ∷ [])) p) = run-frames fs (kept ++ (f ∷ [])) t (omega arith) (rw k (more_valid (length kept) f fs v)) in
      rw (append_assoc f (joined fs) t)
      (turned kept (kept ++ (f ∷ [])) (kept ++ (f ∷ fs)) f p t 0 0 w.whole (looked_at (length kept) (length kept) f p (omega arith) (inr refl) w) (stays kept f w) (rw (append_assoc kept (f ∷ []) fs) at ih))

  -- frames that are numbered from 1: those that were there are dropped, if fewer than are wanted, or none
  pub run_anew : (fs kept : List (List ℕ)) (t : List ℕ) → length fs ≡ c.wanted → length kept ≤ c.wanted - 1 → Numbered c fs
      → Ran fs (length kept) t (run c kept (joined fs ++ t))
  unfolding joined
  run_anew [] [] t h l v = run-frames [] [] t h (numbered_on [] v)
  run_anew [] (k ∷ kept) t h l v = absurd (omega arith)
  run_anew (f ∷ fs) kept t h l v =
      let m : length kept < c.wanted = omega arith in
      let w : Valid c 1 f = v 0 (omega arith) in
      let p : List ℕ = joined fs ++ t in
      let ih : Ran (f ∷ fs) 0 t (run c (f ∷ []) p) = run-frames fs (f ∷ []) t (omega arith) (more_valid 0 f fs (numbered_on (f ∷ fs) v)) in
      rw (append_assoc f (joined fs) t)
      (rw (add-zero (length kept)) at (turned kept (f ∷ []) (f ∷ fs) f p t (length kept) 0 w.whole (looked_at (length kept) 0 f p m (inl refl) w) (begins kept f m w) ih))

  length-joined : (n : ℕ) (fs : List (List ℕ)) → NumberedOn c n fs → length (joined fs) ≡ 13 * length fs
  unfolding joined
  length-joined n [] v = refl
  length-joined n (f ∷ fs) v = omega (arith, length-append f (joined fs), (first_valid n f fs v).whole, length-joined (suc n) fs (more_valid n f fs v))

-- ---- the reader

-- a reader that a reply may begin at: no push refuses it, it holds nothing, and a frame is wanted still, or none is and none was
pub record Ready (r : Reader) : Type 0 where
  pub good : Good r
  pub fits : Fits r
  pub empty : r.held ≡ []
  pub wants : length r.collected ≤ r.config.wanted - 1

none_yet : (y : Why) → count_of (each (λ z. 0)) y < 4294967296
none_yet noise = omega arith
none_yet wrong_sum = omega arith
none_yet wrong_command = omega arith
none_yet wrong_number = omega arith
none_yet echo = omega arith

pub ready_fresh : (c : Config) → c.wanted ≤ 85 → Ready (fresh c)
ready_fresh c h = record { good = good_fresh c h; fits = record { taken = omega arith; discarded = none_yet; cleared = omega arith }; empty = refl; wants = omega arith }

module _ (r : Reader) (w : Ready r) (fs : List (List ℕ)) (t : List ℕ) (h : length fs ≡ r.config.wanted) (v : Numbered r.config fs) where
  abbrev c : Config
  c = r.config

  abbrev done : Outcome
  done = run c r.collected (joined fs ++ t)

  -- THE READER MEETS A REPLY: pushed whole, with anything behind it
  pub gathers : push r (joined fs ++ t) ≡ gathered r fs
  unfolding push did booked held_of untaken complete
  gathers =
      let o : Ran c fs (length r.collected) t done = run_anew c fs r.collected t h w.wants v in
      let b : leb c.wanted (length fs) ≡ true = le-leb c.wanted (length fs) (omega arith) in
      let q : length (joined fs ++ t) - length t ≡ 13 * length fs = omega (arith, length-joined c 0 fs (numbered_on c fs v), length-append (joined fs) t) in
      let d : each (λ y. wrap (count_of r.discarded y + discards_for y done.ledger)) ≡ r.discarded =
      (λ i. each (λ y. (ap (λ (n : ℕ). wrap (count_of r.discarded y + n)) (none-for done.ledger o.lost y) ∙ still r w.fits y) i)) in
      let m : r.mark || ltb 512 (all_of r.discarded + 0) ≡ r.mark = over_same r.mark (all_of r.discarded) w.good.marked in
      rw (w.empty, o.collected, o.rest, o.lost, o.dropped, b, q, d, m)

  -- and it is complete
  pub gathered-complete : completeness (gathered r fs) ≡ true
  unfolding completeness complete
  gathered-complete =
      let g : bad (gathered r fs) ≡ false = sym (ap bad gathers) ∙ good_not-bad (push r (joined fs ++ t)) (good_push r (joined fs ++ t) w.good) in
      rw (g, le-leb c.wanted (length fs) (omega arith))

  -- however it is cut: the last answer
  pub gathers_cut : (first : List ℕ) (more : List (List ℕ)) → joined (first ∷ more) ≡ joined fs ++ t
      → ((answers r first more).reader ≡ gathered r fs) × ((answers r first more).status ≡ status (gathered r fs))
  gathers_cut first more e =
      let a = answers_good r w.good first more in
      let q : (answers r first more).reader ≡ gathered r fs = a.0 ∙ recuts r first more ∙ ap (push r) e ∙ gathers in
      (q, a.1 ∙ ap status q)
