-- The answer of a push, from what its way over the chunk came to. Assumes nothing.
use Rattle.std.specs.Prelude.{if◌then◌else◌}
use Rattle.std.proofs.Common.{◌≡◌, ℕ, ◌+◌, ◌*◌, ◌%◌, ◌<◌, ◌≤◌, Bool, true, false, ◌||◌, ltb, List, ◌++◌, length, get_or, drop, set, sym, refl, ap, ◌∙◌, true≢false, arith, length-append, length-set, get_or-set_other, get_or-set_same}
use mathlib.Core.Option.{none}
use lib.ListN.{get_or-append}
use Rattle.rules.specs.Rules.{Config, Why, look}
use Rattle.rules.specs.Ledger.{Outcome, run, total, discards, discards_for, clears}
use Rattle.rules.specs.Reader.{each, all_of, wrap, complete, took, did, booked, push, status}
use Rattle.rules.proofs.Run.{run-stop}
use Rattle.rules.proofs.Recut.{look-held, held_open, untaken_open}
use Rattle.rules.specs.Reader.{bad, answer}
use Rattle.reader.specs.View.{chop}
use Rattle.reader.specs.View.{config, seat, five_in, front, view, Answered}
use Rattle.reader.specs.Steps.{Moves}
use Rattle.reader.proofs.Turns.{is_open}
use Rattle.reader.proofs.Parts.{first_of}
use Rattle.reader.proofs.Parts.{length_front, first-front}
use Rattle.reader.specs.declared.Counts.{Counts}
use Rattle.reader.specs.declared.moves.Moved.{Moved}

-- ---- a chunk that is only held

pub moves_append : (c : Config) (k : ℕ) (x f f' t : List ℕ) (n m : ℕ) → length x ≡ 7 → k < c.wanted → 0 < n → n + length t ≤ 12 → get_or f (13 * k) 0 ≡ 0xA5
    → front n (drop (13 * k) f) ++ t ≡ front m (drop (13 * k) f') → chop k f ≡ chop k f'
    → Moves c (run c (chop k f) (front n (drop (13 * k) f) ++ t)) x x t f' record { took = length t; lost = 0; collected = k; held = m }
unfolding total
moves_append c k x f f' t n m seven w p b z g q =
    let l : List ℕ = drop (13 * k) f in
    let a : List ℕ = front n l in
    let la : length a ≡ n = length_front n l in
    let open? : complete c (chop k f) ≡ false = is_open c k f w in
    let first : get_or (a ++ t) 0 0 ≡ 0xA5 = get_or-append a t 0 0 (omega arith) ∙ first-front n l p ∙ first_of f (13 * k) ∙ z in
    let none? : look c (length (chop k f)) (a ++ t) ≡ none = look-held c (chop k f) open? (a ++ t) (omega (arith, length-append a t)) (λ i. first) in
    rw (run-stop c (chop k f) (a ++ t) none?)
    record {
      collected = q;
      held = held_open c (chop k f) (a ++ t) open? ∙ g;
      took = rw (untaken_open c (chop k f) (a ++ t) open?) (omega arith);
      lost = refl;
      tally = record { taken = refl; cleared = omega arith; long = seven; small = λ h. h; lost = λ y. omega arith };
    }

-- ---- the answer

pub answered-bad : (f : List ℕ) (c : Counts) (s : List ℕ) → length c.tally ≡ 7 → bad (view c f) ≡ true → Answered f c s 8 0 c f
unfolding answer
answered-bad f c s n e = record { by-rule = rw e; seven = n; as-given = λ h. (refl, refl) }

module _ (f : List ℕ) (c : Counts) (s f' u : List ℕ) (m : Moved) (mark : Bool) (before taken st : ℕ) where
  -- the struct that the code makes
  abbrev pub After : Counts
  After =
      record {
        command = c.command;
        mark = mark;
        strict = c.strict;
        tally = set u 0 taken;
        wanted = c.wanted;
        collected = m.collected;
        held = m.held;
      }

  pub answered : bad (view c f) ≡ false
      → Moves (config c.command c.wanted c.strict) (run (config c.command c.wanted c.strict) (chop c.collected f) (front c.held (drop (13 * c.collected) f) ++ s)) c.tally u s f' m
      → before ≡ all_of (five_in c.tally) → mark ≡ (c.mark || ltb 512 (before + m.lost)) → ((i : ℕ) → get_or c.tally i 0 < 4294967296)
      → taken ≡ (get_or u 0 0 + m.took) % 4294967296 → st ≡ (if mark then 2 else 0)
      → Answered f c s st m.took After f'
  unfolding answer push did booked view status
  answered e v w o below t k =
      let n : length u ≡ 7 = v.tally.long in
      let small : (i : ℕ) → get_or u i 0 < 4294967296 = v.tally.small below in
      let g : Config = config c.command c.wanted c.strict in
      let r : Outcome = run g (chop c.collected f) (front c.held (drop (13 * c.collected) f) ++ s) in
      let tk : m.took ≡ took g r s = omega (arith, v.took) in
      let to : get_or (set u 0 taken) 0 0 ≡ wrap (get_or c.tally 0 0 + took g r s) =
      get_or-set_same u 0 taken 0 (omega (arith, n)) ∙ t ∙ omega (arith, tk, v.tally.taken) in
      let one : (y : Why) → get_or (set u 0 taken) (seat y) 0 ≡ wrap (get_or c.tally (seat y) 0 + discards_for y r.ledger) =
      λ y. get_or-set_other u 0 (seat y) taken 0 (λ z. omega arith) ∙ omega (arith, small (seat y), v.tally.lost y) in
      let cl : get_or (set u 0 taken) 6 0 ≡ wrap (get_or c.tally 6 0 + clears r.ledger) =
      get_or-set_other u 0 6 taken 0 (λ z. omega arith) ∙ omega (arith, small 6, v.tally.cleared) in
      let ov : mark ≡ (c.mark || ltb 512 (all_of (five_in c.tally) + discards r.ledger)) = o ∙ (λ i. c.mark || ltb 512 (w i + v.lost i)) in
      let rd : view After f' ≡ push (view c f) s =
      λ i. record { config = g; collected = sym v.collected i; held = sym v.held i; taken = to i; discarded = each (λ y. one y i); cleared = cl i; mark = ov i } in
      record {
        by-rule = rw e (λ i. record { reader = rd i; status = (k ∙ ap (λ (y : Bool). if y then 2 else 0) ov) i; took = tk i });
        seven = length-set u 0 taken ∙ v.tally.long;
        as-given = λ z. absurd (true≢false (sym z ∙ e));
      }

pub none-held : (n : ℕ) (l t : List ℕ) → n ≡ 0 → front n l ++ t ≡ t
unfolding front
none-held n l t e = rw e
