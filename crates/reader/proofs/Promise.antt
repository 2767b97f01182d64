-- What the contract of a push gives its callers: pushes in a row, and demand 3 of the code. Assumes nothing.
use Rattle.std.specs.Prelude.{if◌then◌else◌}
use Rattle.std.proofs.Common.{◌≡◌, ℕ, zero, suc, ◌+◌, ◌*◌, ◌<◌, ◌≤◌, Bool, true, false, cond, eqb, List, [], ◌∷◌, ◌++◌, length, get_or, take, drop, sym, refl, ap, ◌∙◌, true≢false, arith, ext_get_or, take-add}
use Rattle.wire.proofs.Decides.{both}
use Rattle.rules.specs.Rules.{Config}
use Rattle.rules.specs.Reader.{Reader, Answer, fresh, did, booked, push, status, took, bad, answer}
use Rattle.rules.specs.Demand.{answers}
use Rattle.rules.proofs.Recut.{recut, parts}
use Rattle.rules.proofs.Demand.{bad-push, cuts_dont_matter}
use Rattle.reader.specs.View.{config, chop, front, view, Answered}
use Rattle.reader.specs.Cuts.{Fed, CodeCutsDontMatter}
use Rattle.reader.specs.Told.{fresh_counts}
use Rattle.reader.specs.declared.Counts.{Counts}
use Rattle.reader.specs.declared.pushing.Told.{Told}
use Rattle.reader.specs.declared.pushing.Pushed.{Pushed}
use Rattle.reader.proofs.Parts.{length-chop, length_front}

-- ---- one push

module _ (f : List ℕ) (c : Counts) (s : List ℕ) (st tk : ℕ) (c' : Counts) (f' : List ℕ) (a : Answered f c s st tk c' f') where
  -- a reader that is not refused moves on by the rules
  pub answered-push : bad (view c f) ≡ false
      → (view c' f' ≡ push (view c f) s) × (st ≡ status (push (view c f) s)) × (tk ≡ took (view c f).config (did (view c f) s) s)
  unfolding answer
  answered-push b =
      let e = rw b at a.by-rule in (ap (λ (x : Answer). x.reader) e, ap (λ (x : Answer). x.status) e, ap (λ (x : Answer). x.took) e)

  -- one that is refused is answered 8 with nothing taken, and stays as it is
  pub answered-refused : bad (view c f) ≡ true → (st ≡ 8) × (tk ≡ 0) × (c' ≡ c) × (f' ≡ f)
  unfolding answer
  answered-refused b =
      let e = rw b at a.by-rule in (ap (λ (x : Answer). x.status) e, ap (λ (x : Answer). x.took) e, (a.as-given b).0, (a.as-given b).1)

  -- never more is taken than is given
  pub answered-took : tk ≤ length s
  answered-took = go (bad (view c f)) refl
    where
      go : (b : Bool) → bad (view c f) ≡ b → tk ≤ length s
      go true e = omega (arith, (answered-refused e).1)
      go false e = omega (arith, (answered-push e).2)

-- a push's answer without the array
abbrev pub told : Pushed → Told
told p = record { said = p.said; counts = p.reader.counts }

-- what is seen of a reader decides its numbers
module _ (c₁ : Counts) (f₁ : List ℕ) (c₂ : Counts) (f₂ : List ℕ) (a : length c₁.tally ≡ 7) (b : length c₂.tally ≡ 7) (seen : view c₁ f₁ ≡ view c₂ f₂) where
  same-tally : c₁.tally ≡ c₂.tally
  unfolding view
  same-tally = ext_get_or 0 c₁.tally c₂.tally (a ∙ sym b) (λ i h. go i (omega (arith, h, a)))
    where
      go : (i : ℕ) → i < 7 → get_or c₁.tally i 0 ≡ get_or c₂.tally i 0
      go zero h = ap (λ (x : Reader). x.taken) seen
      go (suc zero) h = ap (λ (x : Reader). x.discarded.noise) seen
      go (suc (suc zero)) h = ap (λ (x : Reader). x.discarded.sum) seen
      go (suc (suc (suc zero))) h = ap (λ (x : Reader). x.discarded.command) seen
      go (suc (suc (suc (suc zero)))) h = ap (λ (x : Reader). x.discarded.number) seen
      go (suc (suc (suc (suc (suc zero))))) h = ap (λ (x : Reader). x.discarded.echo) seen
      go (suc (suc (suc (suc (suc (suc zero)))))) h = ap (λ (x : Reader). x.cleared) seen
      go (suc (suc (suc (suc (suc (suc (suc i))))))) h = absurd (omega arith)

  pub same-counts : c₁ ≡ c₂
  unfolding view
  same-counts =
      let k : c₁.collected ≡ c₂.collected = sym (length-chop c₁.collected f₁) ∙ ap (λ (x : Reader). length x.collected) seen ∙ length-chop c₂.collected f₂ in
      let h : c₁.held ≡ c₂.held =
      sym (length_front c₁.held (drop (13 * c₁.collected) f₁)) ∙ ap (λ (x : Reader). length x.held) seen ∙ length_front c₂.held (drop (13 * c₂.collected) f₂) in
      λ i. record {
        command = (seen i).config.command;
        mark = (seen i).mark;
        strict = (seen i).config.strict;
        tally = same-tally i;
        wanted = (seen i).config.wanted;
        collected = k i;
        held = h i;
      }

-- ---- the answer is one, but for places of the array that no one sees

-- what is seen of a reader after a push that said `status`: its places in use, and with 8 ("as given") the whole array
abbrev pub shown : ℕ → Counts → List ℕ → Reader × List ℕ
shown status c f = both (view c f) (cond (eqb status 8) f [])

moved_on : (r : Reader) → eqb (status r) 8 ≡ false
unfolding status
moved_on r = go r.mark
  where
    go : (m : Bool) → eqb (if m then 2 else 0) 8 ≡ false
    go true = refl
    go false = refl

module _ {f : List ℕ} {c : Counts} {s : List ℕ} where
  -- with 8 the array is the one that was given, so two answers have the same
  whole_once : {x y : Told} {g h : List ℕ} → Answered f c s x.said.status x.said.took x.counts g
      → Answered f c s y.said.status y.said.took y.counts h
      → cond (eqb x.said.status 8) g [] ≡ cond (eqb y.said.status 8) h []
  whole_once {x = x} {y = y} {g = g} {h = h} a b = go (bad (view c f)) refl
    where
      given : (z : Told) (l : List ℕ) → Answered f c s z.said.status z.said.took z.counts l
          → bad (view c f) ≡ true → cond (eqb z.said.status 8) l [] ≡ f
      given z l k e = let q = answered-refused f c s z.said.status z.said.took z.counts l k e in λ i. cond (eqb (q.0 i) 8) (q.3 i) []

      unseen : (z : Told) (l : List ℕ) → Answered f c s z.said.status z.said.took z.counts l
          → bad (view c f) ≡ false → cond (eqb z.said.status 8) l [] ≡ []
      unseen z l k e =
          let q = answered-push f c s z.said.status z.said.took z.counts l k e in
          ap (λ (n : ℕ). cond (eqb n 8) l []) q.1 ∙ ap (λ (d : Bool). cond d l []) (moved_on (push (view c f) s))

      go : (d : Bool) → bad (view c f) ≡ d → cond (eqb x.said.status 8) g [] ≡ cond (eqb y.said.status 8) h []
      go true e = given x g a e ∙ sym (given y h b e)
      go false e = unseen x g a e ∙ sym (unseen y h b e)

  pub told_once : {x y : Told} {g h : List ℕ} → Answered f c s x.said.status x.said.took x.counts g
      → Answered f c s y.said.status y.said.took y.counts h
      → both x (shown x.said.status x.counts g) ≡ both y (shown y.said.status y.counts h)
  told_once {x = x} {y = y} {g = g} {h = h} a b =
      let e = a.by-rule ∙ sym b.by-rule in
      let seen : view x.counts g ≡ view y.counts h = ap (λ (z : Answer). z.reader) e in
      let k : x.counts ≡ y.counts = same-counts x.counts g y.counts h a.seven b.seven seen in
      let w = whole_once {x = x} {y = y} {g = g} {h = h} a b in
      λ i. both (record { said = record { status = (e i).status; took = (e i).took }; counts = k i }) (both (seen i) (w i))

  pub pushed_once : {x y : Pushed} → Answered f c s x.said.status x.said.took x.reader.counts x.reader.frames
      → Answered f c s y.said.status y.said.took y.reader.counts y.reader.frames
      → both (told x) (shown x.said.status x.reader.counts x.reader.frames)
      ≡ both (told y) (shown y.said.status y.reader.counts y.reader.frames)
  pushed_once {x = x} {y = y} a b = told_once {x = told x} {y = told y} a b

-- ---- two pushes are one

same-config : (r : Reader) (s : List ℕ) → (push r s).config ≡ r.config
unfolding push booked
same-config r s = refl

module _ (f : List ℕ) (c : Counts) (s t : List ℕ) (st₁ tk₁ : ℕ) (c₁ : Counts) (f₁ : List ℕ) (st₂ tk₂ : ℕ) (c₂ : Counts) (f₂ : List ℕ)
    (a : Answered f c s st₁ tk₁ c₁ f₁) (b : Answered f₁ c₁ t st₂ tk₂ c₂ f₂) where
  both-bad : bad (view c f) ≡ true → Answered f c (s ++ t) st₂ (tk₁ + tk₂) c₂ f₂
  unfolding answer
  both-bad e =
      let x = answered-refused f c s st₁ tk₁ c₁ f₁ a e in
      let same : view c₁ f₁ ≡ view c f = (λ i. view (x.2 i) (x.3 i)) in
      let y = answered-refused f₁ c₁ t st₂ tk₂ c₂ f₂ b (rw same e) in
      let v : view c₂ f₂ ≡ view c f = (λ i. view (y.2 i) (y.3 i)) ∙ same in
      let k : tk₁ + tk₂ ≡ 0 = omega (arith, x.1, y.1) in
      record {
        by-rule = rw e (λ i. record { reader = v i; status = y.0 i; took = k i });
        seven = b.seven;
        as-given = λ z. (y.2 ∙ x.2, y.3 ∙ x.3);
      }

  both_good : bad (view c f) ≡ false → Answered f c (s ++ t) st₂ (tk₁ + tk₂) c₂ f₂
  unfolding answer
  both_good e =
      let r : Reader = view c f in
      let x = answered-push f c s st₁ tk₁ c₁ f₁ a e in
      let y = rw x.0 at (answered-push f₁ c₁ t st₂ tk₂ c₂ f₂ b (rw x.0 (bad-push (view c f) s e))) in
      let v : view c₂ f₂ ≡ push (view c f) (s ++ t) = y.0 ∙ recut (view c f) s t in
      let w : st₂ ≡ status (push (view c f) (s ++ t)) = y.1 ∙ ap status (recut (view c f) s t) in
      let u : tk₂ ≡ took (view c f).config (did (push (view c f) s) t) t = y.2 ∙ ap (λ (g : Config). took g (did (push (view c f) s) t) t) (same-config (view c f) s) in
      let k : tk₁ + tk₂ ≡ took (view c f).config (did (view c f) (s ++ t)) (s ++ t) = (λ i. x.2 i + u i) ∙ (parts (view c f) s t).taken in
      record {
        by-rule = rw e (λ i. record { reader = v i; status = w i; took = k i });
        seven = b.seven;
        as-given = λ z. absurd (true≢false (sym z ∙ e));
      }

  pub answered_on : Answered f c (s ++ t) st₂ (tk₁ + tk₂) c₂ f₂
  answered_on = go (bad (view c f)) refl
    where
      go : (b : Bool) → bad (view c f) ≡ b → Answered f c (s ++ t) st₂ (tk₁ + tk₂) c₂ f₂
      go true e = both-bad e
      go false e = both_good e

-- a stream's next n bytes, behind those before
pub answered-next : (f : List ℕ) (c : Counts) (s : List ℕ) (at n : ℕ) (st₁ tk₁ : ℕ) (c₁ : Counts) (f₁ : List ℕ) (st₂ tk₂ : ℕ) (c₂ : Counts) (f₂ : List ℕ)
    → Answered f c (take at s) st₁ tk₁ c₁ f₁ → Answered f₁ c₁ (take n (drop at s)) st₂ tk₂ c₂ f₂ → Answered f c (take (at + n) s) st₂ (tk₁ + tk₂) c₂ f₂
answered-next f c s at n st₁ tk₁ c₁ f₁ st₂ tk₂ c₂ f₂ a b =
    rw (take-add at n s) (answered_on f c (take at s) (take n (drop at s)) st₁ tk₁ c₁ f₁ st₂ tk₂ c₂ f₂ a b)

-- ---- one push after the other

fed_answers : (s : List ℕ) (ss : List (List ℕ)) (c : Counts) (f : List ℕ) (st tk : ℕ) (c' : Counts) (f' : List ℕ) → Fed s ss c f st tk c' f'
    → ◌≡◌ {A = Answer} (record { reader = view c' f'; status = st; took = tk }) (answers (view c f) s ss)
unfolding answers
fed_answers s [] c f st tk c' f' a = a.by-rule
fed_answers s (t ∷ ts) c f st tk c' f' (c₁, f₁, st₁, tk₁, a, more) =
    fed_answers t ts c₁ f₁ st tk c' f' more ∙ ap (λ (x : Answer). answers x.reader t ts) a.by-rule

-- a new reader is a fresh one
pub view-fresh : (command wanted : ℕ) (strict : Bool) (f : List ℕ) → view (fresh_counts command wanted strict) f ≡ fresh (config command wanted strict)
unfolding view chop front
view-fresh command wanted strict f = refl

-- DEMAND 3, of the code
pub code_cuts_dont_matter : CodeCutsDontMatter
code_cuts_dont_matter command wanted strict m s ss f st tk c' f' fed =
    let q = fed_answers s ss (fresh_counts command wanted strict) f st tk c' f' fed in
    rw (q, view-fresh command wanted strict f) (cuts_dont_matter (config command wanted strict) m s ss)
