-- Worked readers of the five counts, by computation: each reason by itself, all five, the mark at their sum, and each count at its end. Assumes nothing.
use mathlib.Core.Path.{◌≡◌, refl}
use mathlib.Core.Bool.{Bool, true, false}
use mathlib.Core.List.{[], ◌∷◌, ◌++◌}
use Prim.Native.Nat.{ℕ}
use lib.ListN.{replicate}
use Rattle.frame.specs.Frame.{total, sum}
use Rattle.rules.specs.Rules.{Config, sum_right, restarts, judge, look, stay, after, drops}
use Rattle.rules.specs.Ledger.{turns, run, total as counted, lost_for}
use Rattle.rules.specs.Reader.{Discards, Reader, fresh, complete, held_of, untaken, did, booked, push, status, bad, answer}
use Rattle.rules.proofs.Examples.{five, nothing, answered, c90, strict90, c95_two, strict95, frame90, question, f1, f2, f3, echo1, other}

-- ---- each reason by itself

-- "bytes before A5"
only-noise : answer (fresh c90) (7 ∷ 0 ∷ 9 ∷ frame90) ≡ answered c90 0 16 (frame90 ∷ []) [] 16 (five 3 0 0 0 0) 0 false
unfolding answer bad status push did run turns look judge restarts sum_right sum total after drops stay booked counted lost_for complete held_of untaken
only-noise = refl

-- "bytes after a wrong sum": two start bytes before the frame, each with 12 bytes behind it whose sum is wrong
only_sum : answer (fresh c90) (0xA5 ∷ 0xA5 ∷ frame90) ≡ answered c90 0 15 (frame90 ∷ []) [] 15 (five 0 2 0 0 0) 0 false
unfolding answer bad status push did run turns look judge restarts sum_right sum total after drops stay booked counted lost_for complete held_of untaken
only_sum = refl

-- one byte is thrown for it, and what follows up to the next A5 is noise
sum-then-noise : answer (fresh c90) ((0xA5 ∷ replicate 12 0) ++ frame90) ≡ answered c90 0 26 (frame90 ∷ []) [] 26 (five 12 1 0 0 0) 0 false
unfolding answer bad status push did run turns look judge restarts sum_right sum total after drops stay booked counted lost_for complete held_of untaken
sum-then-noise = refl

-- "wrong command"
only-command : answer (fresh c90) (other ++ other ++ frame90) ≡ answered c90 0 39 (frame90 ∷ []) [] 39 (five 0 0 26 0 0) 0 false
unfolding answer bad status push did run turns look judge restarts sum_right sum total after drops stay booked counted lost_for complete held_of untaken
only-command = refl

-- "wrong number"
only-number : answer (fresh c95_two) (f2 ++ f3 ++ f1 ++ f2) ≡ answered c95_two 0 52 (f1 ∷ f2 ∷ []) [] 52 (five 0 0 0 26 0) 0 false
unfolding answer bad status push did run turns look judge restarts sum_right sum total after drops stay booked counted lost_for complete held_of untaken
only-number = refl

-- "echo": 0 where the mode is off, since there it is collected, or a wrong number (`echo-read`, `echo-restarts`)
only-echo : answer (fresh strict90) (question ++ question ++ frame90) ≡ answered strict90 0 39 (frame90 ∷ []) [] 39 (five 0 0 0 0 26) 0 false
unfolding answer bad status push did run turns look judge restarts sum_right sum total after drops stay booked counted lost_for complete held_of untaken
only-echo = refl

-- ---- all five

all_five : answer (fresh strict95) ((7 ∷ 8 ∷ 0xA5 ∷ other) ++ f1 ++ f3 ++ f3 ++ echo1 ++ echo1 ++ echo1 ++ f2) ≡ answered strict95 0 107 (f1 ∷ f2 ∷ []) [] 107 (five 2 1 13 26 39) 0 false
unfolding answer bad status push did run turns look judge restarts sum_right sum total after drops stay booked counted lost_for complete held_of untaken
all_five = refl

-- ---- the mark is judged on their sum

abbrev with : Config → ℕ → Discards → Bool → Reader
with c taken discarded mark = (answered c 0 0 [] [] taken discarded 0 mark).reader

-- 512 made of all five is not over 512, whatever is the last of them; 513 is
reasons_512 : answer (with c90 511 (five 102 103 103 103 100) false) (0 ∷ []) ≡ answered c90 0 1 [] [] 512 (five 103 103 103 103 100) 0 false
unfolding answer bad status push did run turns look judge restarts sum_right sum total after drops stay booked counted lost_for complete held_of untaken
reasons_512 = refl

reasons_513 : answer (with c90 512 (five 103 103 103 103 100) false) (0 ∷ []) ≡ answered c90 2 1 [] [] 513 (five 104 103 103 103 100) 0 true
unfolding answer bad status push did run turns look judge restarts sum_right sum total after drops stay booked counted lost_for complete held_of untaken
reasons_513 = refl

-- five counts that have wrapped to 0 together: 512 bytes more are not over 512, and the mark is judged on the wrapped sum
reasons_wrapped : answer (with c90 0 (five 4294967295 1 0 0 0) false) (replicate 512 0) ≡ answered c90 0 512 [] [] 512 (five 511 1 0 0 0) 0 false
unfolding answer bad status push did run turns look judge restarts sum_right sum total after drops stay booked counted lost_for complete held_of untaken
reasons_wrapped = refl

-- ---- "Each wraps modulo 2^32"; the first is `wraps`

wraps_sum : answer (with c90 0 (five 0 4294967295 0 0 0) true) (0xA5 ∷ frame90) ≡ answered c90 2 14 (frame90 ∷ []) [] 14 nothing 0 true
unfolding answer bad status push did run turns look judge restarts sum_right sum total after drops stay booked counted lost_for complete held_of untaken
wraps_sum = refl

wraps_command : answer (with c90 0 (five 0 0 4294967295 0 0) true) other ≡ answered c90 2 13 [] [] 13 (five 0 0 12 0 0) 0 true
unfolding answer bad status push did run turns look judge restarts sum_right sum total after drops stay booked counted lost_for complete held_of untaken
wraps_command = refl

wraps_number : answer (with c95_two 0 (five 0 0 0 4294967295 0) true) f3 ≡ answered c95_two 2 13 [] [] 13 (five 0 0 0 12 0) 0 true
unfolding answer bad status push did run turns look judge restarts sum_right sum total after drops stay booked counted lost_for complete held_of untaken
wraps_number = refl

wraps_echo : answer (with strict90 0 (five 0 0 0 0 4294967295) true) question ≡ answered strict90 2 13 [] [] 13 (five 0 0 0 0 12) 0 true
unfolding answer bad status push did run turns look judge restarts sum_right sum total after drops stay booked counted lost_for complete held_of untaken
wraps_echo = refl
