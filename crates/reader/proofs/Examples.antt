-- Worked answers of a new reader, its array among them, and of what a bad one is told. Assumes nothing.
use Rattle.std.proofs.Common.{◌≡◌, ℕ, true, false, List, [], ◌∷◌, ◌++◌, length, replicate, refl, ap}
use Rattle.std.specs.Prelude.{Ok, Err}
use Rattle.frame.specs.Frame.{total, sum}
use Rattle.rules.specs.Rules.{wrong_number, discarded as thrown, collected, sum_right, restarts, judge, look, stay, after, drops}
use Rattle.rules.specs.Ledger.{turns, run, total as total_of, lost_for}
use Rattle.rules.specs.Reader.{Answer, bad, complete, held_of, untaken, did, booked, push, status, answer, missing, completeness}
use Rattle.rules.proofs.Examples.{five, nothing, answered, c90, frame90}
use Rattle.reader.specs.declared.Counts.{Counts}
use Rattle.reader.specs.declared.Standing.{Standing}
use Rattle.reader.specs.declared.asked.Asked.{Asked}
use Rattle.reader.specs.declared.tally.Why.TheVariants.{Noise, Sum, Command, Number, Echo}
use Rattle.reader.specs.View.{config_of, reason, fate, seat, five_in, discarded_in, reasons, counted, standing_of, chop, front, view, Answered}
use Rattle.reader.specs.Lent.{seen}
use Rattle.reader.specs.Told.{fresh_counts, fresh_reader, opening_of, opened, missing_told, complete_told}

-- the first bytes of a request
abbrev request : List ℕ
request = 0xA5 ∷ 0x40 ∷ 0x95 ∷ []

-- 1,105 places, and all of them 0
zeros : (length (fresh_reader 0x95 3 true).frames ≡ 1105) × (total (fresh_reader 0x95 3 true).frames ≡ 0)
unfolding total
zeros = (refl, refl)

-- "n = ceil(size/13)"; a refused reader wants no frame and has no command: 7 before 6
new : ((opened request 14 false).reader.counts ≡ fresh_counts 0x95 2 false) × ((opened request 14 false).number ≡ 0)
    × ((opened request 1106 false).reader.counts ≡ fresh_counts 0 0 false) × ((opened request 1106 false).number ≡ 6)
    × ((opened (0xA5 ∷ 0x40 ∷ []) 1106 false).reader.counts ≡ fresh_counts 0 0 false) × ((opened (0xA5 ∷ 0x40 ∷ []) 1106 false).number ≡ 7)
new = (refl, refl, refl, refl, refl, refl)

-- in strict mode the same reader with the mode; "A refused new reader is all zero", so it is not strict
new-strict : ((opened request 14 true).reader.counts ≡ fresh_counts 0x95 2 true) × ((opened request 14 true).number ≡ 0)
    × ((opened request 1106 true).reader.counts ≡ fresh_counts 0 0 false) × ((opened (0xA5 ∷ 0x40 ∷ []) 13 true).reader.counts ≡ fresh_counts 0 0 false)
new-strict = (refl, refl, refl, refl)

-- the same without the array
new_numbers : (opening_of request 14 false ≡ record { number = 0; counts = fresh_counts 0x95 2 false }) × (opening_of request 14 true ≡ record { number = 0; counts = fresh_counts 0x95 2 true })
    × (opening_of request 1106 true ≡ record { number = 6; counts = fresh_counts 0 0 false }) × (opening_of (0xA5 ∷ 0x40 ∷ []) 1106 true ≡ record { number = 7; counts = fresh_counts 0 0 false })
new_numbers = (refl, refl, refl, refl)

-- one that has discarded 513 bytes and not its mark
abbrev harmed : Counts
harmed = record { command = 0x90; mark = false; strict = false; tally = 513 ∷ 513 ∷ 0 ∷ 0 ∷ 0 ∷ 0 ∷ 0 ∷ []; wanted = 1; collected = 0; held = 0 }

-- "`missing` then answers 0 and completeness no, both with 8"
told : (missing_told (view harmed []) ≡ record { number = 8; missing = 0 }) × (complete_told (view harmed []) ≡ record { number = 8; complete = false })
unfolding view chop front bad complete missing completeness
told = (refl, refl)

-- a reader into which nothing was pushed
fresh_numbers : fresh_counts 0x95 3 true ≡ record { command = 0x95; mark = false; strict = true; tally = 0 ∷ 0 ∷ 0 ∷ 0 ∷ 0 ∷ 0 ∷ 0 ∷ []; wanted = 3; collected = 0; held = 0 }
fresh_numbers = refl

-- the struct as the rules see it: each number in its place, two frames collected, four bytes held behind them, and one place more in the array
abbrev halfway : Counts
halfway = record { command = 0x95; mark = true; strict = false; tally = 42 ∷ 1 ∷ 2 ∷ 3 ∷ 4 ∷ 6 ∷ 5 ∷ []; wanted = 3; collected = 2; held = 4 }

abbrev halfway_standing : Standing
halfway_standing = record { command = 0x95; mark = true; strict = false; wanted = 3; collected = 2; held = 4 }

viewed : view halfway (replicate 13 1 ++ replicate 13 2 ++ (0xA5 ∷ 4 ∷ 5 ∷ 6 ∷ 7 ∷ []))
    ≡ record {
      config = record { command = 0x95; wanted = 3; strict = false };
      collected = replicate 13 1 ∷ replicate 13 2 ∷ [];
      held = 0xA5 ∷ 4 ∷ 5 ∷ 6 ∷ [];
      taken = 42;
      discarded = five 1 2 3 4 6;
      cleared = 5;
      mark = true;
    }
unfolding view chop front
viewed = refl

-- so is a reader that the caller has
seen_lent : seen (record { counts = halfway; frames = replicate 13 1 ++ replicate 13 2 ++ (0xA5 ∷ 4 ∷ 5 ∷ 6 ∷ 7 ∷ []) }) ≡ view halfway (replicate 13 1 ++ replicate 13 2 ++ (0xA5 ∷ 4 ∷ 5 ∷ 6 ∷ 7 ∷ []))
seen_lent = refl

-- what a reader is asked for, each number in its place
asked_for : (a : Asked) → config_of a ≡ record { command = a.command; wanted = a.wanted; strict = a.strict }
asked_for a = refl

-- the tally: where each reason counts; what it has not is 0
seats : (seat (reason Noise) ≡ 1) × (seat (reason Sum) ≡ 2) × (seat (reason Command) ≡ 3) × (seat (reason Number) ≡ 4) × (seat (reason Echo) ≡ 5)
seats = (refl, refl, refl, refl, refl)

-- what becomes of bytes, as the code says it
fates : (fate (Ok tt) ≡ collected) × (fate (Err Number) ≡ thrown wrong_number)
fates = (refl, refl)

none-counted : (five_in [] ≡ nothing) × ((view (counted halfway_standing []) []).taken ≡ 0) × ((view (counted halfway_standing []) []).cleared ≡ 0)
unfolding view
none-counted = (refl, refl, refl)

by_name : (discarded_in (42 ∷ 1 ∷ 2 ∷ 3 ∷ 4 ∷ 6 ∷ 5 ∷ []) ≡ record { noise = 1; sum = 2; command = 3; number = 4; echo = 6 })
    × (reasons (record { noise = 1; sum = 2; command = 3; number = 4; echo = 6 }) ≡ five 1 2 3 4 6)
by_name = (refl, refl)

-- the numbers without it, and with it again
apart : (standing_of halfway ≡ halfway_standing) × (counted halfway_standing (42 ∷ 1 ∷ 2 ∷ 3 ∷ 4 ∷ 6 ∷ 5 ∷ []) ≡ halfway)
apart = (refl, refl)

-- "n numbers in any case"
short : front 3 (1 ∷ []) ≡ 1 ∷ 0 ∷ 0 ∷ []
unfolding front
short = refl

-- what the contract of a push says, read off: document 01's frame into a new reader, whatever its array holds
pushed : (f : List ℕ) (st tk : ℕ) (c' : Counts) (f' : List ℕ) → Answered f (fresh_counts 0x90 1 false) frame90 st tk c' f'
    → (st ≡ 0) × (tk ≡ 13) × (length c'.tally ≡ 7) × (view c' f' ≡ (answered c90 0 13 (frame90 ∷ []) [] 13 nothing 0 false).reader)
unfolding view chop front answer bad status push did run turns look judge restarts sum_right sum total after drops stay booked total_of lost_for complete held_of untaken
pushed f st tk c' f' a = (ap (λ (x : Answer). x.status) a.by-rule, ap (λ (x : Answer). x.took) a.by-rule, a.seven, ap (λ (x : Answer). x.reader) a.by-rule)

-- "BadState returns the reader as given, with 0 taken": its numbers and its whole array
refused : (f : List ℕ) (st tk : ℕ) (c' : Counts) (f' : List ℕ) → Answered f harmed frame90 st tk c' f' → (st ≡ 8) × (tk ≡ 0) × (c' ≡ harmed) × (f' ≡ f)
unfolding view chop front answer bad status push did run turns look judge restarts sum_right sum total after drops stay booked total_of lost_for complete held_of untaken
refused f st tk c' f' a =
    (ap (λ (x : Answer). x.status) a.by-rule, ap (λ (x : Answer). x.took) a.by-rule, (a.as-given refl).0, (a.as-given refl).1)
