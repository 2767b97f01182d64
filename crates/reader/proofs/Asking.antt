-- What a new reader, `missing`, completeness and copying out answer, from what the code tests. Assumes nothing.
use Rattle.std.proofs.Common.{◌≡◌, ℕ, ◌-◌, ◌*◌, ◌<◌, ◌≤◌, false, leb, List, ◌++◌, take, drop, ap, ◌∙◌, zero-add, le-ltb, lt-ltb}
use lib.Seq.{paste}
use Rattle.std.specs.Prelude.{Ok, Err, ⊤}
use Rattle.frame.specs.declared.refusal.Refusal.{Refusal}
use Rattle.frame.specs.declared.refusal.Refusal.TheVariants.{NoRoom}
use Rattle.frame.specs.Refusals.{Check, sound, refusal_number}
use Rattle.rules.specs.Reader.{complete, bad, missing, completeness, state_check, joined, copy_check}
use Rattle.reader.specs.View.{config, view, counted, standing_of}
use Rattle.reader.specs.Told.{missing_told, complete_told}
use Rattle.reader.specs.declared.Counts.{Counts}
use Rattle.reader.specs.declared.Standing.{Standing}
use Rattle.reader.specs.declared.queries.Missing.{Missing}
use Rattle.reader.specs.declared.queries.Completed.{Completed}
use Rattle.reader.proofs.Parts.{length-chop, length_front, joined-chop}
use Rattle.reader.proofs.Turns.{is_open, is_complete}
use Rattle.reader.proofs.Refusing.{sane, is-refused, not-refused}

-- the check of a state whose tally is lent beside the others is that of the whole
pub of_whole : (c : Counts) (f : List ℕ) (r : Check) (s : Standing) → s ≡ standing_of c → r ≡ state_check (view (counted s c.tally) f) → r ≡ state_check (view c f)
of_whole c f r s e q = q ∙ ap (λ (x : Standing). state_check (view (counted x c.tally) f)) e

module _ (c : Counts) (f : List ℕ) where
  -- the state is refused
  module _ (r : Refusal) (e : Err r ≡ state_check (view c f)) where
    pub missing-bad : ◌≡◌ {A = Missing} (record { number = refusal_number r; missing = 0 }) (missing_told (view c f))
    unfolding missing
    missing-bad = let h = is-refused c f r e in rw (h.0, h.1)

    pub complete-bad : ◌≡◌ {A = Completed} (record { number = refusal_number r; complete = false }) (complete_told (view c f))
    unfolding completeness
    complete-bad = let h = is-refused c f r e in rw (h.0, h.1)

    pub copy-bad : (room : ℕ) → copy_check (view c f) room ≡ Err r
    copy-bad room = let h = is-refused c f r e in rw (h.0, h.1)

  module _ (x : ⊤) (e : Ok x ≡ state_check (view c f)) where
    good : bad (view c f) ≡ false
    good = not-refused c f x e

    -- what the code may then count on
    pub fits : (c.held ≤ 12) × (c.wanted ≤ 85) × (c.collected ≤ c.wanted)
    fits = let s = sane c f good in (s.0, s.1, s.2)

    pub missing-complete : c.wanted ≤ c.collected → ◌≡◌ {A = Missing} (record { number = 0; missing = 0 }) (missing_told (view c f))
    unfolding missing view
    missing-complete h = rw (good, is_complete (config c.command c.wanted c.strict) c.collected f h)

    pub missing_open : c.collected < c.wanted → ◌≡◌ {A = Missing} (record { number = 0; missing = 13 - c.held }) (missing_told (view c f))
    unfolding missing view
    missing_open h = rw (good, is_open (config c.command c.wanted c.strict) c.collected f h, length_front)

    pub complete-is : ◌≡◌ {A = Completed} (record { number = 0; complete = leb c.wanted c.collected }) (complete_told (view c f))
    unfolding completeness complete view
    complete-is = rw (good, length-chop)

    pub copy-room : (room : ℕ) → room < 13 * c.collected → copy_check (view c f) room ≡ Err NoRoom
    unfolding view
    copy-room room h = rw (good, length-chop, lt-ltb room (13 * c.collected) h)

    pub copy_sound : (room : ℕ) → 13 * c.collected ≤ room → copy_check (view c f) room ≡ sound
    unfolding view
    copy_sound room h = rw (good, length-chop, le-ltb room (13 * c.collected) h)

-- the collected bytes
pub collected_bytes : (c : Counts) (f : List ℕ) → joined (view c f).collected ≡ take (13 * c.collected) f
unfolding view
collected_bytes c f = joined-chop c.collected f

-- what copying them leaves
pub copied : (c : Counts) (f out : List ℕ) → paste out 0 (drop 0 f) (13 * c.collected) ≡ joined (view c f).collected ++ drop (13 * c.collected) out
copied c f out = rw (collected_bytes c f, zero-add)
