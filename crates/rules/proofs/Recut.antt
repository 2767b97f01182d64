-- However the stream is cut, the reader ends the same.
-- Assumes nothing.
use Rattle.std.specs.Prelude.{if◌then◌else◌}
use mathlib.Core.Path.{◌≡◌, refl, sym, ap, ◌∙◌}
use mathlib.Core.Bool.{Bool, true, false, not, ◌||◌, true≢false}
use mathlib.Core.List.{List, [], ◌∷◌, ◌++◌, append_assoc, append-nil}
use mathlib.Core.Option.{none, some}
use Prim.Native.Nat.{ℕ, ◌+◌, ◌-◌, ◌≤◌, ◌<◌}
use native.Mathlib.Omega.{arith}
use lib.ListN.{length, take, drop, length-drop, length-append, take-append-drop}
use lib.Seq.{take-append-le, drop-append-le}
use lib.Dec.{leb, ltb, eqb}
use borrow.Author.Tests.{ltb-true, ltb-false, lt-ltb, eqb-true, eq-eqb}
use Rattle.wire.specs.Bytes.{byte_at}
use Rattle.rules.specs.Rules.{Config, noise, span, Fate, discarded, collected, size, lost, judge, look, after}
use Rattle.rules.specs.Ledger.{Line, line, next, Outcome, enter, run, total, discards, lost_for, discards_for, clears, spent}
use Rattle.rules.specs.Reader.{Reader, each, count_of, all_of, wrap, complete, held_of, untaken, took, did, booked, push, joined}
use Rattle.rules.proofs.Run.{enough, steady, run-stop, run_more, run_ind}
use Rattle.rules.proofs.Five.{all_on}

-- ---- sums over two ledgers

pub total_append : (f : Line → ℕ) (l m : List Line) → total f (l ++ m) ≡ total f l + total f m
unfolding total
total_append f [] m = omega arith
total_append f (x ∷ l) m = omega (arith, total_append f l m)

-- ---- the run

-- a ledger, and what came of the run after it
abbrev pub follow : List Line → Outcome → Outcome
follow l o = record { ledger = l ++ o.ledger; collected = o.collected; rest = o.rest }

module _ (c : Config) where
  -- at the end no turn is possible
  pub run_halts : (kept : List (List ℕ)) (p : List ℕ) → look c (length (run c kept p).collected) (run c kept p).rest ≡ none
  run_halts = run_ind c (λ kept p o. look c (length o.collected) o.rest ≡ none) (λ kept p e. e) (λ kept p a o e h. h)

  -- THE RECUT: the run over p ++ q is the run over p, then that over what it left and q
  pub run_append : (q : List ℕ) (kept : List (List ℕ)) (p : List ℕ)
      → run c kept (p ++ q) ≡ follow (run c kept p).ledger (run c (run c kept p).collected ((run c kept p).rest ++ q))
  run_append q = run_ind c (λ kept p o. run c kept (p ++ q) ≡ follow o.ledger (run c o.collected (o.rest ++ q))) (λ kept p e. refl) step
    where
      step : (kept : List (List ℕ)) (p : List ℕ) (a : Fate) (o : Outcome) → look c (length kept) p ≡ some a
          → run c (next c kept p a) (drop (size a) p ++ q) ≡ follow o.ledger (run c o.collected (o.rest ++ q))
          → run c kept (p ++ q) ≡ enter (line c kept p a) (follow o.ledger (run c o.collected (o.rest ++ q)))
      step kept p a o e h =
          let l : size a ≤ length p = enough c (length kept) p a e in
          run_more c kept (p ++ q) a (steady c (length kept) p a q e)
          ∙ rw (take-append-le (size a) p q l, drop-append-le (size a) p q l, h)

  -- every byte has one place: in a line of the ledger, or in the rest
  pub run-bytes : (kept : List (List ℕ)) (p : List ℕ) → spent (run c kept p).ledger ++ (run c kept p).rest ≡ p
  unfolding spent
  run-bytes = run_ind c (λ kept p o. spent o.ledger ++ o.rest ≡ p) (λ kept p e. refl)
      (λ kept p a o e h. rw (append_assoc, h, take-append-drop))

  -- what completes a reader is 13 bytes long
  Ends : List (List ℕ) → List ℕ → Outcome → Type 0
  Ends kept p o = (length o.rest ≤ length p) × (complete c kept ≡ false → complete c o.collected ≡ true → length o.rest + 13 ≤ length p)

  ends : (kept : List (List ℕ)) (p : List ℕ) → Ends kept p (run c kept p)
  unfolding Ends after
  ends = run_ind c Ends (λ kept p e. (omega arith, (λ i f. let z : true ≡ false = cc in absurd (true≢false z)))) step
    where
      step : (kept : List (List ℕ)) (p : List ℕ) (a : Fate) (o : Outcome) → look c (length kept) p ≡ some a
          → Ends (next c kept p a) (drop (size a) p) o → Ends kept p (enter (line c kept p a) o)
      step kept p (discarded y) o e h =
          let d : length (drop (span y) p) ≡ length p - span y = length-drop (span y) p in (omega arith, (λ i f. omega (arith, h.1 i f)))
      step kept p collected o e h =
          let d : length (drop 13 p) ≡ length p - 13 = length-drop 13 p in (omega arith, (λ i f. omega (arith, enough c (length kept) p collected e)))

  pub run_completes : (kept : List (List ℕ)) (p : List ℕ) → complete c kept ≡ false → complete c (run c kept p).collected ≡ true
      → length (run c kept p).rest + 13 ≤ length p
  unfolding Ends
  run_completes kept p = (ends kept p).1

pub wrap_twice : (t x y z : ℕ) → x + y ≡ z → wrap (wrap (t + x) + y) ≡ wrap (t + z)
wrap_twice t x y z e = omega arith

pub over_twice : (o : Bool) (d x y z : ℕ) → x + y ≡ z → (o || ltb 512 (d + x)) || ltb 512 (wrap (d + x) + y) ≡ o || ltb 512 (d + z)
over_twice true d x y z e = refl
over_twice false d x y z e = go (ltb 512 (d + x)) refl
  where
    go : (b : Bool) → ltb 512 (d + x) ≡ b → ltb 512 (d + x) || ltb 512 (wrap (d + x) + y) ≡ ltb 512 (d + z)
    go true h = rw (h, lt-ltb 512 (d + z) (omega (arith, ltb-true 512 (d + x) h)))
    go false h =
        let s : wrap (d + x) + y ≡ d + z = omega (arith, ltb-false 512 (d + x) h) in
        rw (h, s)

-- ---- push

-- the outcome o of one push of a ++ b is that of a push of a, o₁, and then of b, o₂
pub record Joins (c : Config) (a b : List ℕ) (o₁ o₂ o : Outcome) : Type 0 where
  pub collected : o₂.collected ≡ o.collected
  pub held : held_of c o₂.collected o₂.rest ≡ held_of c o.collected o.rest
  pub sums : (f : Line → ℕ) → total f o₁.ledger + total f o₂.ledger ≡ total f o.ledger
  pub taken : took c o₁ a + took c o₂ b ≡ took c o (a ++ b)

joins : (r : Reader) (a b : List ℕ) (o₁ o₂ o : Outcome) → Joins r.config a b o₁ o₂ o → booked (booked r a o₁) b o₂ ≡ booked r (a ++ b) o
unfolding booked
joins r a b o₁ o₂ o j =
    λ i. record {
      config = r.config;
      collected = j.collected i;
      held = j.held i;
      taken = wrap_twice r.taken (took r.config o₁ a) (took r.config o₂ b) (took r.config o (a ++ b)) j.taken i;
      discarded = each (λ y. wrap_twice (count_of r.discarded y) (discards_for y o₁.ledger) (discards_for y o₂.ledger) (discards_for y o.ledger) (j.sums (λ l. lost_for y l.fate)) i);
      cleared = wrap_twice r.cleared (clears o₁.ledger) (clears o₂.ledger) (clears o.ledger) (j.sums (λ l. l.cleared)) i;
      mark = marked i;
    }
  where
    -- the mark reads the sum of the five, which goes on as the one count did
    marked : (r.mark || ltb 512 (all_of r.discarded + discards o₁.ledger)) || ltb 512 (all_of (each (λ y. wrap (count_of r.discarded y + discards_for y o₁.ledger))) + discards o₂.ledger)
        ≡ r.mark || ltb 512 (all_of r.discarded + discards o.ledger)
    marked =
        ap (λ (n : ℕ). (r.mark || ltb 512 (all_of r.discarded + discards o₁.ledger)) || ltb 512 (n + discards o₂.ledger)) (all_on r.discarded o₁.ledger)
        ∙ over_twice r.mark (all_of r.discarded) (discards o₁.ledger) (discards o₂.ledger) (discards o.ledger) (j.sums (λ l. lost l.fate))

-- complete: no turn is possible
pub look-complete : (c : Config) (kept : List (List ℕ)) (p : List ℕ) → complete c kept ≡ true → look c (length kept) p ≡ none
unfolding look complete
look-complete c kept [] e = refl
look-complete c kept (x ∷ xs) e = rw e

-- what is held and what is left to the caller, complete or not
module _ (c : Config) (kept : List (List ℕ)) (rest : List ℕ) where
  pub held-complete : complete c kept ≡ true → held_of c kept rest ≡ []
  unfolding held_of
  held-complete e = rw e

  pub held_open : complete c kept ≡ false → held_of c kept rest ≡ rest
  unfolding held_of
  held_open e = rw e

  pub untaken-complete : complete c kept ≡ true → untaken c kept rest ≡ rest
  unfolding untaken
  untaken-complete e = rw e

  pub untaken_open : complete c kept ≡ false → untaken c kept rest ≡ []
  unfolding untaken
  untaken_open e = rw e

-- an incomplete reader that holds at most 13 bytes leaves the caller only bytes of its own
pub untaken_own : (c : Config) (kept : List (List ℕ)) (h b : List ℕ) → complete c kept ≡ false → length h ≤ 13
    → length (untaken c (run c kept (h ++ b)).collected (run c kept (h ++ b)).rest) ≤ length b
untaken_own c kept h b e s = go (complete c (run c kept (h ++ b)).collected) refl
  where
    o : Outcome
    o = run c kept (h ++ b)

    go : (t : Bool) → complete c (run c kept (h ++ b)).collected ≡ t → length (untaken c (run c kept (h ++ b)).collected (run c kept (h ++ b)).rest) ≤ length b
    go true f = rw (untaken-complete c o.collected o.rest f) (omega (arith, run_completes c kept (h ++ b) e f, length-append h b))
    go false f = rw (untaken_open c o.collected o.rest f) (omega arith)

module _ (c : Config) (a b : List ℕ) (o₁ : Outcome) where
  -- the first push completed the reader: the second takes nothing
  joins_complete : complete c o₁.collected ≡ true
      → Joins c a b o₁ (run c o₁.collected (held_of c o₁.collected o₁.rest ++ b)) (follow o₁.ledger (run c o₁.collected (o₁.rest ++ b)))
  unfolding total
  joins_complete e =
      let k : List (List ℕ) = o₁.collected in
      rw (held-complete c k o₁.rest e, run-stop c k b (look-complete c k b e), run-stop c k (o₁.rest ++ b) (look-complete c k (o₁.rest ++ b) e))
      record {
        collected = refl;
        held = rw (held-complete c k b e, held-complete c k (o₁.rest ++ b) e);
        sums = λ f. omega (arith, total_append f o₁.ledger []);
        taken = simp (untaken-complete c k o₁.rest e, untaken-complete c k b e, untaken-complete c k (o₁.rest ++ b) e)
            (omega (arith, length-append a b, length-append o₁.rest b));
      }

  -- it did not: the second goes on with what the first left
  joins_open : complete c o₁.collected ≡ false → length o₁.rest ≤ 12
      → Joins c a b o₁ (run c o₁.collected (held_of c o₁.collected o₁.rest ++ b)) (follow o₁.ledger (run c o₁.collected (o₁.rest ++ b)))
  joins_open e s =
      rw (held_open c o₁.collected o₁.rest e)
      record {
        collected = refl;
        held = refl;
        sums = λ f. sym (total_append f o₁.ledger _);
        taken = rw (untaken_open c o₁.collected o₁.rest e) (omega (arith, length-append a b, untaken_own c o₁.collected o₁.rest b e (omega arith)));
      }

-- at the end of a run an incomplete reader has fewer than 13 bytes, and the first is A5
module _ (c : Config) (kept : List (List ℕ)) (open? : complete c kept ≡ false) where
  pub look_open : (p : List ℕ) → look c (length kept) p ≡ none → (length p ≤ 12) × (0 < length p → byte_at p 0 ≡ 0xA5)
  unfolding look complete
  look_open [] h = (omega arith, (λ i. absurd (omega arith)))
  look_open (x ∷ xs) h = go (leb c.wanted (length kept)) (eqb x 0xA5) (ltb (length (x ∷ xs)) 13) open? refl refl h
    where
      go : (b₁ b₂ b₃ : Bool) → b₁ ≡ false → eqb x 0xA5 ≡ b₂ → ltb (length (x ∷ xs)) 13 ≡ b₃
          → (if b₁ then none else if not b₂ then some (discarded noise) else if b₃ then none else some (judge c (length kept) (take 13 (x ∷ xs)))) ≡ none
          → (length (x ∷ xs) ≤ 12) × (0 < length (x ∷ xs) → x ≡ 0xA5)
      go true b₂ b₃ f i j h = absurd (true≢false f)
      go false false b₃ f i j h = let z : ◌≡◌ {A = ℕ} 0 1 = cc in absurd (omega arith)
      go false true true f i j h = (omega (arith, ltb-true (length (x ∷ xs)) 13 j), (λ k. eqb-true x 0xA5 i))
      go false true false f i j h = let z : ◌≡◌ {A = ℕ} 0 1 = cc in absurd (omega arith)

  -- and such bytes are left
  pub look-held : (p : List ℕ) → length p ≤ 12 → (0 < length p → byte_at p 0 ≡ 0xA5) → look c (length kept) p ≡ none
  unfolding look complete
  look-held [] s f = refl
  look-held (x ∷ xs) s f = rw (open?, eq-eqb x 0xA5 (f (omega arith)), lt-ltb (length (x ∷ xs)) 13 (omega arith))

-- two pushes are one push of both chunks
module _ (r : Reader) (a b : List ℕ) where
  pub parts : Joins r.config a b (did r a) (did (push r a) b) (did r (a ++ b))
  unfolding push booked did
  parts =
      rw (← append_assoc r.held a b, run_append c b r.collected (r.held ++ a)) (by (complete c o₁.collected) refl)
    where
      c : Config
      c = r.config

      o₁ : Outcome
      o₁ = run r.config r.collected (r.held ++ a)

      by : (t : Bool) → complete c o₁.collected ≡ t
          → Joins c a b o₁ (run c o₁.collected (held_of c o₁.collected o₁.rest ++ b)) (follow o₁.ledger (run c o₁.collected (o₁.rest ++ b)))
      by true e = joins_complete c a b o₁ e
      by false e = joins_open c a b o₁ e (look_open c o₁.collected e o₁.rest (run_halts c r.collected (r.held ++ a))).0

  pub recut : push (push r a) b ≡ push r (a ++ b)
  unfolding push booked did
  recut = joins r a b (did r a) (did (push r a) b) (did r (a ++ b)) parts

-- chunks pushed one after the other
unfoldable pub pushes : Reader → List (List ℕ) → Reader
pushes r [] = r
pushes r (a ∷ more) = pushes (push r a) more

-- any cut into one or more chunks gives what one push of the whole stream gives
pub recuts : (r : Reader) (a : List ℕ) (more : List (List ℕ)) → pushes r (a ∷ more) ≡ push r (joined (a ∷ more))
unfolding pushes joined
recuts r a [] = ap (push r) (sym (append-nil a))
recuts r a (b ∷ more) = recuts (push r a) b more ∙ recut r a (joined (b ∷ more))
