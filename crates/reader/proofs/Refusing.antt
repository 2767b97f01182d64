-- The refusal of a bad state, from what the code tests. Assumes nothing.
use Rattle.std.proofs.Common.{◌≡◌, ℕ, zero, suc, ◌*◌, ◌<◌, ◌≤◌, Bool, true, false, not, ◌&&◌, ◌||◌, eqb, ltb, leb, List, get_or, sym, refl, ap, ◌∙◌, true≢false, arith, ltb-false, ltb-true, le-ltb, lt-ltb, eq-eqb, ne_eqb, eqb-true, le-leb, leb-false}
use borrow.Author.Tests.{lt-leb, not-false}
use Rattle.std.specs.Prelude.{Ok, Err, ⊤}
use Rattle.frame.specs.declared.refusal.Refusal.{Refusal}
use Rattle.frame.specs.declared.refusal.Refusal.TheVariants.{BadState}
use Rattle.frame.specs.Refusals.{sound, refuse}
use Rattle.rules.specs.Reader.{all_of, complete, bad, state_check}
use Rattle.std.proofs.lemmas.Bool.{or_parts}
use Rattle.rules.proofs.Bools.{and-false}
use Rattle.reader.specs.View.{five_in, front, view}
use Rattle.reader.specs.declared.Counts.{Counts}
use Rattle.reader.proofs.Parts.{length-chop, length_front, first_of}

-- refusal 8, as the numbers show it
unfoldable refused : Counts → List ℕ → Bool
refused c f =
    ltb 12 c.held
    || ltb 85 c.wanted
    || ltb c.wanted c.collected
    || (leb c.wanted c.collected && ltb 0 c.held)
    || (ltb 0 c.held && not (eqb (get_or f (13 * c.collected) 0) 0xA5))
    || (ltb 512 (all_of (five_in c.tally)) && not c.mark)

same_first : (n : ℕ) (l : List ℕ) → ltb 0 n && not (eqb (get_or (front n l) 0 0) 0xA5) ≡ ltb 0 n && not (eqb (get_or l 0 0) 0xA5)
unfolding front
same_first zero l = refl
same_first (suc n) l = refl

-- it is refusal 8 of the view
bad-refused : (c : Counts) (f : List ℕ) → bad (view c f) ≡ refused c f
unfolding bad refused view complete
bad-refused c f = rw (length_front, length-chop, same_first, first_of f (13 * c.collected))

-- what a reader that is not refused is like
pub sane : (c : Counts) (f : List ℕ) → bad (view c f) ≡ false
    → (c.held ≤ 12) × (c.wanted ≤ 85) × (c.collected ≤ c.wanted) × (0 < c.held → c.collected < c.wanted) × (0 < c.held → get_or f (13 * c.collected) 0 ≡ 0xA5)
unfolding refused
sane c f e =
    let x₅ = or_parts _ _ (sym (bad-refused c f) ∙ e) in
    let x₄ = or_parts _ _ x₅.0 in
    let x₃ = or_parts _ _ x₄.0 in
    let x₂ = or_parts _ _ x₃.0 in
    let x₁ = or_parts _ _ x₂.0 in (
      ltb-false _ _ x₁.0,
      ltb-false _ _ x₁.1,
      ltb-false _ _ x₂.1,
      (λ h. open? h x₃.1),
      (λ h. eqb-true _ _ (not-false _ (and-false _ _ x₄.1 (lt-ltb 0 c.held h)))),
    )
  where
    open? : 0 < c.held → leb c.wanted c.collected && ltb 0 c.held ≡ false → c.collected < c.wanted
    open? h q = go (leb c.wanted c.collected) refl
      where
        go : (b : Bool) → leb c.wanted c.collected ≡ b → c.collected < c.wanted
        go true r = absurd (omega (arith, ltb-false 0 c.held (and-false _ _ q r)))
        go false r = leb-false _ _ r

-- and what its mark says
pub few-unmarked : (c : Counts) (f : List ℕ) → bad (view c f) ≡ false → c.mark ≡ false → all_of (five_in c.tally) ≤ 512
unfolding refused
few-unmarked c f e m =
    let first : Bool =
    ltb 12 c.held
    || ltb 85 c.wanted
    || ltb c.wanted c.collected
    || (leb c.wanted c.collected && ltb 0 c.held)
    || (ltb 0 c.held && not (eqb (get_or f (13 * c.collected) 0) 0xA5)) in
    let x = or_parts first (ltb 512 (all_of (five_in c.tally)) && not c.mark) (sym (bad-refused c f) ∙ e) in go (ltb 512 (all_of (five_in c.tally))) refl x.1
  where
    go : (b : Bool) → ltb 512 (all_of (five_in c.tally)) ≡ b → ltb 512 (all_of (five_in c.tally)) && not c.mark ≡ false → all_of (five_in c.tally) ≤ 512
    go true q x = absurd (true≢false (rw (q, m) at x))
    go false q x = ltb-false 512 (all_of (five_in c.tally)) q

-- the tests in the code's order
module _ (c : Counts) (f : List ℕ) where
  pub too_full : 12 < c.held → true ≡ bad (view c f)
  unfolding refused
  too_full h = rw (bad-refused c f, lt-ltb 12 c.held h)

  module _ (h : c.held ≤ 12) where
    pub too_many : 85 < c.wanted → true ≡ bad (view c f)
    unfolding refused
    too_many w = rw (bad-refused c f, le-ltb 12 c.held h, lt-ltb 85 c.wanted w)

    module _ (w : c.wanted ≤ 85) where
      pub too_far : c.wanted < c.collected → true ≡ bad (view c f)
      unfolding refused
      too_far k = rw (bad-refused c f, le-ltb 12 c.held h, le-ltb 85 c.wanted w, lt-ltb c.wanted c.collected k)

      module _ (k : c.collected ≤ c.wanted) where
        start : refused c f ≡ (leb c.wanted c.collected && ltb 0 c.held) || (ltb 0 c.held && not (eqb (get_or f (13 * c.collected) 0) 0xA5)) || (ltb 512 (all_of (five_in c.tally)) && not c.mark)
        unfolding refused
        start = rw (le-ltb 12 c.held h, le-ltb 85 c.wanted w, le-ltb c.wanted c.collected k)

        pub empty : c.held ≡ 0 → bad (view c f) ≡ ltb 512 (all_of (five_in c.tally)) && not c.mark
        empty z = bad-refused c f ∙ start ∙ (let q : ltb 0 c.held ≡ false = le-ltb 0 c.held (omega arith) in rw q (go (leb c.wanted c.collected) (ltb 512 (all_of (five_in c.tally)) && not c.mark)))
          where
            go : (a b : Bool) → (a && false) || false || b ≡ b
            go true b = refl
            go false b = refl

        module _ (z : c.held ≡ 0 → ⊥) where
          some? : ltb 0 c.held ≡ true
          some? = lt-ltb 0 c.held (omega arith)

          pub too_late : c.wanted ≤ c.collected → true ≡ bad (view c f)
          too_late l = rw (bad-refused c f, start, some?, le-leb c.wanted c.collected l)

          module _ (l : c.collected < c.wanted) where
            pub not-begun : (get_or f (13 * c.collected) 0 ≡ 0xA5 → ⊥) → true ≡ bad (view c f)
            not-begun n = rw (bad-refused c f, start, some?, lt-leb c.wanted c.collected l, ne_eqb (get_or f (13 * c.collected) 0) 0xA5 n)

            pub begun : get_or f (13 * c.collected) 0 ≡ 0xA5 → bad (view c f) ≡ ltb 512 (all_of (five_in c.tally)) && not c.mark
            begun n = bad-refused c f ∙ start ∙ rw (some?, lt-leb c.wanted c.collected l, eq-eqb (get_or f (13 * c.collected) 0) 0xA5 n)

  -- whatever is held, and wherever the collected frames end
  pub any_many : 85 < c.wanted → true ≡ bad (view c f)
  any_many w = go (ltb 12 c.held) refl
    where
      go : (b : Bool) → ltb 12 c.held ≡ b → true ≡ bad (view c f)
      go true e = too_full (ltb-true 12 c.held e)
      go false e = too_many (ltb-false 12 c.held e) w

  pub past : c.held ≤ 12 → c.wanted ≤ 85 → (c.held ≡ 0 → ⊥) → c.wanted ≤ c.collected → true ≡ bad (view c f)
  past h w z l = go (ltb c.wanted c.collected) refl
    where
      go : (b : Bool) → ltb c.wanted c.collected ≡ b → true ≡ bad (view c f)
      go true e = too_far h w (ltb-true c.wanted c.collected e)
      go false e = too_late h w (ltb-false c.wanted c.collected e) z l

  pub is-refused : (r : Refusal) → Err r ≡ state_check (view c f) → (bad (view c f) ≡ true) × (r ≡ BadState)
  is-refused r e = go (bad (view c f)) e
    where
      go : (b : Bool) → Err r ≡ refuse b BadState sound → (b ≡ true) × (r ≡ BadState)
      go true q = (refl, cc)
      go false q = absurd (cc)

  pub not-refused : (x : ⊤) → Ok x ≡ state_check (view c f) → bad (view c f) ≡ false
  not-refused x e = go (bad (view c f)) e
    where
      go : (b : Bool) → Ok x ≡ refuse b BadState sound → b ≡ false
      go true q = absurd (cc)
      go false q = refl

-- five numbers added one after the other, each time modulo 2^32

-- a count that is known
pub recounted : {x y : ℕ} (m : Bool) → x ≡ y → ltb 512 x && not m ≡ ltb 512 y && not m
recounted m e = ap (λ (z : ℕ). ltb 512 z && not m) e
