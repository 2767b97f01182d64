-- What is missing after a push, from its status and the reader's numbers. Assumes nothing.
use Rattle.std.proofs.Common.{◌≡◌, ℕ, ◌-◌, ◌<◌, ◌≤◌, Bool, true, false, ltb, List, sym, refl, ap, ◌∙◌, arith, ltb-false, ltb-true}
use Rattle.wire.proofs.Decides.{both}
use Rattle.rules.specs.Reader.{Reader, bad, missing, push, booked, status, state_check}
use Rattle.std.specs.Prelude.{Ok}
use Rattle.rules.proofs.Demand.{bad-push}
use Rattle.reader.specs.View.{view, Answered}
use Rattle.reader.specs.Lent.{TurnedInto}
use Rattle.reader.specs.declared.Counts.{Counts}
use Rattle.reader.specs.declared.queries.Missing.{Missing}
use Rattle.reader.specs.declared.pushing.Told.{Told}
use Rattle.reader.specs.declared.pushing.Turn.{Turn}
use Rattle.reader.proofs.Refusing.{sane}
use Rattle.reader.proofs.Asking.{missing-complete, missing_open}
use Rattle.reader.proofs.Promise.{answered-push, answered-refused, shown, told_once}

-- no push of a reader that is not refused says 8
never_8 : (r : Reader) → status r ≡ 8 → ⊥
unfolding status
never_8 r e = go r.mark refl
  where
    go : (b : Bool) → r.mark ≡ b → ⊥
    go true m = absurd (omega (arith, rw m at e))
    go false m = absurd (omega (arith, rw m at e))

module _ (f : List ℕ) (c : Counts) (s : List ℕ) (st tk : ℕ) (c' : Counts) (f' : List ℕ) (a : Answered f c s st tk c' f') where
  -- where the status is not 8, the reader afterwards is not refused
  stays_good : (st ≡ 8 → ⊥) → bad (view c' f') ≡ false
  stays_good n = go (bad (view c f)) refl
    where
      go : (b : Bool) → bad (view c f) ≡ b → bad (view c' f') ≡ false
      go true e = absurd (n (answered-refused f c s st tk c' f' a e).0)
      go false e = ap bad (answered-push f c s st tk c' f' a e).0 ∙ bad-push (view c f) s e

  -- what the reader was asked for stays
  pub asked_stays : (c.command ≡ c'.command) × (c.strict ≡ c'.strict) × (c.wanted ≡ c'.wanted)
  unfolding view push booked
  asked_stays = go (bad (view c f)) refl
    where
      go : (b : Bool) → bad (view c f) ≡ b → (c.command ≡ c'.command) × (c.strict ≡ c'.strict) × (c.wanted ≡ c'.wanted)
      go true e = let q = sym (answered-refused f c s st tk c' f' a e).2 in (ap (λ (x : Counts). x.command) q, ap (λ (x : Counts). x.strict) q, ap (λ (x : Counts). x.wanted) q)
      go false e =
          let q = sym (answered-push f c s st tk c' f' a e).0 in
          (ap (λ (x : Reader). x.config.command) q, ap (λ (x : Reader). x.config.strict) q, ap (λ (x : Reader). x.config.wanted) q)

  pub holds_few : (st ≡ 8 → ⊥) → c'.held ≤ 12
  holds_few n = (sane c' f' (stays_good n)).0

  -- m is what the code tells
  module _ (m : ℕ) (refused : st ≡ 8 → m ≡ 0) (full : (st ≡ 8 → ⊥) → c'.wanted ≤ c'.collected → m ≡ 0) (lacks : (st ≡ 8 → ⊥) → c'.collected < c'.wanted → m ≡ 13 - c'.held) where
    by_count : (st ≡ 8 → ⊥) → m ≡ missing (view c' f')
    by_count n = go (ltb c'.collected c'.wanted) refl
      where
        sound? : Ok tt ≡ state_check (view c' f')
        sound? = rw (stays_good n)

        go : (b : Bool) → ltb c'.collected c'.wanted ≡ b → m ≡ missing (view c' f')
        go true e =
            let h = ltb-true c'.collected c'.wanted e in lacks n h ∙ ap (λ (x : Missing). x.missing) (missing_open c' f' tt sound? h)
        go false e =
            let h = ltb-false c'.collected c'.wanted e in full n h ∙ ap (λ (x : Missing). x.missing) (missing-complete c' f' tt sound? h)

    pub missing-told : m ≡ missing (view c' f')
    unfolding missing
    missing-told = go (bad (view c f)) refl
      where
        go : (b : Bool) → bad (view c f) ≡ b → m ≡ missing (view c' f')
        go true e =
            let q = answered-refused f c s st tk c' f' a e in
            let z : 0 ≡ missing (view c f) = rw e in refused q.0 ∙ z ∙ (λ i. missing (view (sym q.2 i) (sym q.3 i)))
        go false e =
            by_count (λ z. never_8 (push (view c f) s) (sym (answered-push f c s st tk c' f' a e).1 ∙ z))

-- the answer is one, but for places of the array that no one sees; with 8 those too
abbrev told_of : Turn → Counts → Told
told_of x m = record { said = record { status = x.status; took = x.took }; counts = m }

module _ {f : List ℕ} {c : Counts} {s : List ℕ} where
  pub turned_into_once : {x y : Turn} {m n : Counts} {g h : List ℕ} → TurnedInto f c s x m g → TurnedInto f c s y n h
      → both x (both m (shown x.status m g)) ≡ both y (both n (shown y.status n h))
  turned_into_once {x = x} {y = y} {m = m} {n = n} {g = g} {h = h} a b =
      let e = told_once {x = told_of x m} {y = told_of y n} a.answered b.answered in
      let k : x.missing ≡ y.missing = a.missing ∙ ap (λ z. missing z.1.0) e ∙ sym b.missing in
      λ i. both (record { status = (e i).0.said.status; missing = k i; took = (e i).0.said.took }) (both (e i).0.counts (e i).1)
