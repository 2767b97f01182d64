-- What a push comes to, from what its scans come to.
-- Assumes nothing.
use Rattle.std.proofs.Common.{◌≡◌, ℕ, ◌+◌, ◌*◌, ◌<◌, ◌≤◌, Bool, true, false, leb, List, ◌++◌, length, get_or, take, drop, set, sym, refl, ap, ◌∙◌, append_assoc, zero-add, arith, length-append, length-drop, take-append-drop, drop_of_length-le, length-take, take_all, leb-false, leb-true}
use lib.Seq.{drop-append-le, drop-append-add}
use Rattle.rules.specs.Rules.{Config, lost}
use Rattle.rules.specs.Ledger.{Outcome, run, total, lost_for}
use Rattle.rules.specs.Reader.{wrap, complete}
use Rattle.rules.proofs.Recut.{follow, total_append, run_append, run_halts, run_completes, look_open, held-complete, held_open, untaken-complete, untaken_open}
use Rattle.reader.specs.View.{chop}
use Rattle.reader.specs.View.{front}
use Rattle.reader.specs.Steps.{Ran, Moves, noise_in}
use Rattle.reader.proofs.Turns.{is_open, is_complete, here-start, here_quiet, here_end, end-bytes}
use Rattle.reader.specs.declared.scan.Progress.{Progress}
use Rattle.reader.specs.declared.moves.Moved.{Moved}

-- ---- one scan

module _ (c : Config) (kept : List (List ℕ)) (p : List ℕ) (x u s f : List ℕ) (r : Progress) (ran : Ran (run c kept p) x u s f r) where
  abbrev o : Outcome
  o = run c kept p

  ran_complete : c.wanted ≤ r.collected → complete c (run c kept p).collected ≡ true
  ran_complete h = rw ran.collected (is_complete c r.collected f h)

  ran_open : r.collected < c.wanted → complete c (run c kept p).collected ≡ false
  ran_open h = rw ran.collected (is_open c r.collected f h)

  -- what an incomplete reader is left with can be held
  pub ran_short : r.collected < c.wanted → length s ≤ r.at + 12
  ran_short h =
      let l = (look_open c (run c kept p).collected (ran_open h) (run c kept p).rest (run_halts c kept p)).0 in
      omega (arith, ap length ran.rest, length-drop r.at s, l)

  pub moves-complete : c.wanted ≤ r.collected
      → Moves c (run c kept p) x u s f record { took = r.at; lost = r.lost; collected = r.collected; held = 0 }
  unfolding front
  moves-complete e =
      record {
        collected = ran.collected;
        held = held-complete c (run c kept p).collected (run c kept p).rest (ran_complete e);
        took = rw (untaken-complete c (run c kept p).collected (run c kept p).rest (ran_complete e), ran.rest) (omega (arith, length-drop r.at s, ran.within));
        lost = ran.lost;
        tally = ran.tally;
      }

  -- the bytes left are held in f'; t is the chunk, which is used up
  pub moves_open : (t f' : List ℕ) (k : ℕ) → r.collected < c.wanted → drop r.at s ≡ front k (drop (13 * r.collected) f') → chop r.collected f ≡ chop r.collected f'
      → Moves c (run c kept p) x u t f' record { took = length t; lost = r.lost; collected = r.collected; held = k }
  moves_open t f' k e g q =
      record {
        collected = ran.collected ∙ q;
        held = held_open c (run c kept p).collected (run c kept p).rest (ran_open e) ∙ ran.rest ∙ g;
        took = rw (untaken_open c (run c kept p).collected (run c kept p).rest (ran_open e)) (omega arith);
        lost = ran.lost;
        tally = ran.tally;
      }

-- nothing but noise: all of it is discarded, and no scan is needed
pub moves-noise : (c : Config) (s f t u : List ℕ) (have : ℕ) → have < c.wanted → noise_in s ≡ length s → length t ≡ 7 → u ≡ set t 1 (wrap (get_or t 1 0 + length s))
    → Moves c (run c (chop have f) s) t u s f record { took = length s; lost = length s; collected = have; held = 0 }
unfolding front
moves-noise c s f t u have w q e k =
    let o : Outcome = run c (chop have f) s in
    let h = rw (zero-add (length s)) at (here_quiet c o t s f have 0 0 t (here-start c t s f have 0 e) (length s) u w (sym q) k) in
    let r = here_end c o t s f have (length s) (length s) u h (end-bytes c s f have (length s) (omega arith)) (omega arith) (omega arith) in
    moves_open c (chop have f) s t u s f _ r s f 0 w (drop_of_length-le s {i = length s} (omega arith)) refl

-- ---- two scans: over the bytes a in hand with the first 12 of t, and over what is left of t

module _ (c : Config) (kept : List (List ℕ)) (a t x u f : List ℕ) (r : Progress) (e : complete c kept ≡ false) (l : length a ≤ 12)
    (ran : Ran (run c kept (a ++ take 12 t)) x u (a ++ take 12 t) f r) where
  -- the first ended among the bytes in hand: t is short, and all of it was there
  pub within_short : r.at < length a → (r.collected < c.wanted) × (length t ≤ 12)
  within_short h = go (leb c.wanted r.collected) refl
    where
      w : List ℕ
      w = a ++ take 12 t

      go : (b : Bool) → leb c.wanted r.collected ≡ b → (r.collected < c.wanted) × (length t ≤ 12)
      go true q =
          let d = run_completes c kept (a ++ take 12 t) e (ran_complete c kept (a ++ take 12 t) x u (a ++ take 12 t) f r ran (leb-true c.wanted r.collected q)) in
          absurd (omega (arith, d, ap length ran.rest, length-drop r.at (a ++ take 12 t), ran.within))
      go false q =
          let o : r.collected < c.wanted = leb-false c.wanted r.collected q in
          let d = ran_short c kept (a ++ take 12 t) x u (a ++ take 12 t) f r ran o in
          (o, omega (arith, d, length-append a (take 12 t), length-take 12 t))

  pub moves-within : (f' : List ℕ) (k : ℕ) → r.at < length a → drop r.at (a ++ take 12 t) ≡ front k (drop (13 * r.collected) f') → chop r.collected f ≡ chop r.collected f'
      → Moves c (run c kept (a ++ t)) x u t f' record { took = length t; lost = r.lost; collected = r.collected; held = k }
  moves-within f' k b g q =
      let w = within_short b in
      let v : take 12 t ≡ t = take_all 12 t w.1 in
      moves_open c kept (a ++ t) x u (a ++ t) f r (rw v at ran) t f' k w.0 (rw v at g) q

  -- it ended behind them
  pub moves_across : (j : ℕ) (f' u' : List ℕ) (q : Moved) → length a + j ≡ r.at → Moves c (run c (chop r.collected f) (drop j t)) u u' (drop j t) f' q
      → Moves c (run c kept (a ++ t)) x u' t f' record { took = j + q.took; lost = r.lost + q.lost; collected = q.collected; held = q.held }
  unfolding total
  moves_across j f' u' q i m =
      let d : List ℕ = drop 12 t in
      let w : List ℕ = a ++ take 12 t in
      let o : Outcome = run c kept w in
      let o₂ : Outcome = run c (chop r.collected f) (drop j t) in
      let lj : j ≤ length (take 12 t) = omega (arith, ran.within, length-append a (take 12 t)) in
      let cut : a ++ t ≡ w ++ d = rw (append_assoc, take-append-drop) in
      let back : drop r.at w ≡ drop j (take 12 t) = ap (λ (k : ℕ). drop k w) (sym i) ∙ drop-append-add a (take 12 t) j in
      let left : o.rest ++ d ≡ drop j t = rw (ran.rest, back, ← drop-append-le j (take 12 t) d lj, take-append-drop) in
      let whole : run c kept (a ++ t) ≡ follow o.ledger o₂ = ap (run c kept) cut ∙ run_append c d kept w ∙ (λ z. follow o.ledger (run c (ran.collected z) (left z))) in
      rw whole
      record {
        collected = m.collected;
        held = m.held;
        took = omega (arith, m.took, lj, length-take 12 t, length-drop j t);
        lost = omega (arith, ran.lost, m.lost, total_append (λ p. lost p.fate) o.ledger o₂.ledger);
        tally = record {
          taken = m.tally.taken ∙ ran.tally.taken;
          long = m.tally.long;
          small = λ h. m.tally.small (ran.tally.small h);
          cleared = omega (arith, ran.tally.cleared, m.tally.cleared, total_append (λ p. p.cleared) o.ledger o₂.ledger);
          lost = λ y. omega (arith, ran.tally.lost y, m.tally.lost y, total_append (λ p. lost_for y p.fate) o.ledger o₂.ledger);
        };
      }
