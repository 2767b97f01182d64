-- Worked streams, by computation: document 01's example, P11, P12, P13, and one for each rule that could be another without any theorem of demand 3 noticing.
use mathlib.Core.Path.{◌≡◌, refl}
use mathlib.Core.Bool.{Bool, true, false}
use mathlib.Core.List.{List, [], ◌∷◌, ◌++◌}
use Prim.Native.Nat.{ℕ}
use lib.ListN.{replicate}
use Rattle.frame.specs.Frame.{total, sum}
use Rattle.rules.specs.Rules.{Config, noise, wrong_sum, wrong_command, wrong_number, discarded as thrown, collected as taken_in, sum_right, restarts, judge, look, stay, after, drops}
use Rattle.rules.specs.Ledger.{turns, run, total as counted, lost_for, spent}
use Rattle.rules.specs.Reader.{Discards, Reader, Answer, fresh, complete, held_of, untaken, did, booked, push, status, bad, answer, joined}
use Rattle.rules.specs.Gathered.{gathered}

-- five counts: noise, sum, command, number, echo
abbrev pub five : ℕ → ℕ → ℕ → ℕ → ℕ → Discards
five n s c i e = record { noise = n; sum = s; command = c; number = i; echo = e }

abbrev pub nothing : Discards
nothing = five 0 0 0 0 0

-- an answer, field by field
abbrev pub answered : Config → ℕ → ℕ → List (List ℕ) → List ℕ → ℕ → Discards → ℕ → Bool → Answer
answered c status took frames held taken discarded cleared mark =
    record {
      reader = record { config = c; collected = frames; held = held; taken = taken; discarded = discarded; cleared = cleared; mark = mark };
      status = status;
      took = took;
    }

abbrev pub c90 : Config
c90 = record { command = 0x90; wanted = 1; strict = false }

-- its number is 2, which a reader of one frame does not read
abbrev pub frame90 : List ℕ
frame90 = 0xA5 ∷ 0x01 ∷ 0x90 ∷ 0x08 ∷ 0x02 ∷ 0x0B ∷ 0x00 ∷ 0x00 ∷ 0x74 ∷ 0xB7 ∷ 0x03 ∷ 0x6A ∷ 0xE3 ∷ []

-- "reply 90 taken 15 held 0 frames 1 discarded 2 cleared 0", and "noise 1 sum 1 command 0 number 0 echo 0": after the wrong sum one byte is discarded, not 13
pub line90 : answer (fresh c90) (0 ∷ 0xA5 ∷ frame90) ≡ answered c90 0 15 (frame90 ∷ []) [] 15 (five 1 1 0 0 0) 0 false
unfolding answer bad status push did run turns look judge restarts sum_right sum total after drops stay booked counted lost_for complete held_of untaken
line90 = refl

-- the bytes behind it are left to the caller
pub line90_more : answer (fresh c90) (frame90 ++ frame90) ≡ answered c90 0 13 (frame90 ∷ []) [] 13 nothing 0 false
unfolding answer bad status push did run turns look judge restarts sum_right sum total after drops stay booked counted lost_for complete held_of untaken
line90_more = refl

-- a wrong command: 13 bytes are discarded, though the wanted frame begins among them; what follows is then noise
pub wrong-command : answer (fresh c90) (0xA5 ∷ 0x01 ∷ 0x91 ∷ 0x08 ∷ 0x76 ∷ frame90) ≡ answered c90 0 18 [] [] 18 (five 5 0 13 0 0) 0 false
unfolding answer bad status push did run turns look judge restarts sum_right sum total after drops stay booked counted lost_for complete held_of untaken
wrong-command = refl

-- and no more than 13: the wanted frame right behind it is collected
pub wrong_command-next : answer (fresh c90) (0xA5 ∷ 0x01 ∷ 0x91 ∷ 0x08 ∷ 0 ∷ 0 ∷ 0 ∷ 0 ∷ 0 ∷ 0 ∷ 0 ∷ 0 ∷ 0x3F ∷ frame90) ≡ answered c90 0 26 (frame90 ∷ []) [] 26 (five 0 0 13 0 0) 0 false
unfolding answer bad status push did run turns look judge restarts sum_right sum total after drops stay booked counted lost_for complete held_of untaken
wrong_command-next = refl

-- our own 90 question, come back, and then the reply: a strict reader throws the question away, another one takes it for the reply
abbrev pub question : List ℕ
question = 0xA5 ∷ 0x40 ∷ 0x90 ∷ 0x08 ∷ 0 ∷ 0 ∷ 0 ∷ 0 ∷ 0 ∷ 0 ∷ 0 ∷ 0 ∷ 0x7D ∷ []

abbrev pub strict90 : Config
strict90 = record { command = 0x90; wanted = 1; strict = true }

pub echo_thrown : answer (fresh strict90) (question ++ frame90) ≡ answered strict90 0 26 (frame90 ∷ []) [] 26 (five 0 0 0 0 13) 0 false
unfolding answer bad status push did run turns look judge restarts sum_right sum total after drops stay booked counted lost_for complete held_of untaken
echo_thrown = refl

pub echo-read : answer (fresh c90) (question ++ frame90) ≡ answered c90 0 13 (question ∷ []) [] 13 nothing 0 false
unfolding answer bad status push did run turns look judge restarts sum_right sum total after drops stay booked counted lost_for complete held_of untaken
echo-read = refl

-- a start byte among the 13 bytes of an echo begins nothing: here it would be a frame, with the four bytes behind it
abbrev pub hiding : List ℕ
hiding = 0xA5 ∷ 0x40 ∷ 0x90 ∷ 0x08 ∷ 0xA5 ∷ 0x01 ∷ 0x90 ∷ 0x08 ∷ 0 ∷ 0 ∷ 0 ∷ 0 ∷ 0xBB ∷ []

pub echo-whole : answer (fresh strict90) (hiding ++ (0 ∷ 0 ∷ 0 ∷ 0xF9 ∷ []) ++ frame90) ≡ answered strict90 0 30 (frame90 ∷ []) [] 30 (five 4 0 0 0 13) 0 false
unfolding answer bad status push did run turns look judge restarts sum_right sum total after drops stay booked counted lost_for complete held_of untaken
echo-whole = refl

-- the echo of another command; a sender at 41, and a command 40, are no echoes
pub echo_another : answer (fresh strict90) ((0xA5 ∷ 0x40 ∷ 0x91 ∷ 0x08 ∷ 0 ∷ 0 ∷ 0 ∷ 0 ∷ 0 ∷ 0 ∷ 0 ∷ 0 ∷ 0x7E ∷ []) ++ frame90) ≡ answered strict90 0 26 (frame90 ∷ []) [] 26 (five 0 0 13 0 0) 0 false
unfolding answer bad status push did run turns look judge restarts sum_right sum total after drops stay booked counted lost_for complete held_of untaken
echo_another = refl

abbrev from41 : List ℕ
from41 = 0xA5 ∷ 0x41 ∷ 0x90 ∷ 0x08 ∷ 0 ∷ 0 ∷ 0 ∷ 0 ∷ 0 ∷ 0 ∷ 0 ∷ 0 ∷ 0x7E ∷ []

pub no_echo_41 : answer (fresh strict90) from41 ≡ answered strict90 0 13 (from41 ∷ []) [] 13 nothing 0 false
unfolding answer bad status push did run turns look judge restarts sum_right sum total after drops stay booked counted lost_for complete held_of untaken
no_echo_41 = refl

abbrev strict40 : Config
strict40 = record { command = 0x40; wanted = 1; strict = true }

abbrev asked40 : List ℕ
asked40 = 0xA5 ∷ 0x01 ∷ 0x40 ∷ 0x08 ∷ 0 ∷ 0 ∷ 0 ∷ 0 ∷ 0 ∷ 0 ∷ 0 ∷ 0 ∷ 0xEE ∷ []

pub no_echo_40 : answer (fresh strict40) asked40 ≡ answered strict40 0 13 (asked40 ∷ []) [] 13 nothing 0 false
unfolding answer bad status push did run turns look judge restarts sum_right sum total after drops stay booked counted lost_for complete held_of untaken
no_echo_40 = refl

-- an echo counts among the 512: 499 and 13 are not over it, 500 and 13 are
pub echo-within : answer (answered strict90 0 0 [] [] 499 (five 499 0 0 0 0) 0 false).reader question ≡ answered strict90 0 13 [] [] 512 (five 499 0 0 0 13) 0 false
unfolding answer bad status push did run turns look judge restarts sum_right sum total after drops stay booked counted lost_for complete held_of untaken
echo-within = refl

pub echo_over : answer (answered strict90 0 0 [] [] 500 (five 500 0 0 0 0) 0 false).reader question ≡ answered strict90 2 13 [] [] 513 (five 500 0 0 0 13) 0 true
unfolding answer bad status push did run turns look judge restarts sum_right sum total after drops stay booked counted lost_for complete held_of untaken
echo_over = refl

abbrev pub numbered : ℕ → ℕ → List ℕ
numbered i s = 0xA5 ∷ 0x01 ∷ 0x95 ∷ 0x08 ∷ i ∷ 0 ∷ 0 ∷ 0 ∷ 0 ∷ 0 ∷ 0 ∷ 0 ∷ s ∷ []

abbrev pub c95 : Config
c95 = record { command = 0x95; wanted = 3; strict = false }

abbrev pub f1 : List ℕ
f1 = numbered 1 0x44

abbrev pub f2 : List ℕ
f2 = numbered 2 0x45

abbrev pub f3 : List ℕ
f3 = numbered 3 0x46

-- P11: frames 1, 2, 1, 2, 3
pub p11 : answer (fresh c95) (f1 ++ f2 ++ f1 ++ f2 ++ f3) ≡ answered c95 0 65 (f1 ∷ f2 ∷ f3 ∷ []) [] 65 nothing 2 false
unfolding answer bad status push did run turns look judge restarts sum_right sum total after drops stay booked counted lost_for complete held_of untaken
p11 = refl

-- a wrong number: 13 bytes are discarded, and what was collected stays
pub wrong-number : answer (fresh c95) (f1 ++ f3 ++ f2) ≡ answered c95 0 39 (f1 ∷ f2 ∷ []) [] 39 (five 0 0 0 13 0) 0 false
unfolding answer bad status push did run turns look judge restarts sum_right sum total after drops stay booked counted lost_for complete held_of untaken
wrong-number = refl

-- it is 13 though a start byte stands among them: that byte is not held
pub wrong_number-whole : answer (fresh c95) (f1 ++ (0xA5 ∷ 0x01 ∷ 0x95 ∷ 0x08 ∷ 3 ∷ 0xA5 ∷ 0 ∷ 0 ∷ 0 ∷ 0 ∷ 0 ∷ 0 ∷ 0xEB ∷ [])) ≡ answered c95 0 26 (f1 ∷ []) [] 26 (five 0 0 0 13 0) 0 false
unfolding answer bad status push did run turns look judge restarts sum_right sum total after drops stay booked counted lost_for complete held_of untaken
wrong_number-whole = refl

-- an echo numbered 1 drops nothing in strict mode, and everything in the other
abbrev pub strict95 : Config
strict95 = record { command = 0x95; wanted = 3; strict = true }

abbrev pub echo1 : List ℕ
echo1 = 0xA5 ∷ 0x40 ∷ 0x95 ∷ 0x08 ∷ 1 ∷ 0 ∷ 0 ∷ 0 ∷ 0 ∷ 0 ∷ 0 ∷ 0 ∷ 0x83 ∷ []

pub echo-numbered : answer (fresh strict95) (f1 ++ f2 ++ echo1 ++ f3) ≡ answered strict95 0 52 (f1 ∷ f2 ∷ f3 ∷ []) [] 52 (five 0 0 0 0 13) 0 false
unfolding answer bad status push did run turns look judge restarts sum_right sum total after drops stay booked counted lost_for complete held_of untaken
echo-numbered = refl

pub echo-restarts : answer (fresh c95) (f1 ++ f2 ++ echo1 ++ f3) ≡ answered c95 0 52 (echo1 ∷ []) [] 52 (five 0 0 0 13 0) 2 false
unfolding answer bad status push did run turns look judge restarts sum_right sum total after drops stay booked counted lost_for complete held_of untaken
echo-restarts = refl

abbrev pub c95_two : Config
c95_two = record { command = 0x95; wanted = 2; strict = false }

-- with two frames wanted the number is read, too: one that begins again, and one that is wrong
pub two_again : answer (fresh c95_two) (f1 ++ f1 ++ f2) ≡ answered c95_two 0 39 (f1 ∷ f2 ∷ []) [] 39 nothing 1 false
unfolding answer bad status push did run turns look judge restarts sum_right sum total after drops stay booked counted lost_for complete held_of untaken
two_again = refl

pub two_wrong : answer (fresh c95_two) (f1 ++ f3) ≡ answered c95_two 0 26 (f1 ∷ []) [] 26 (five 0 0 0 13 0) 0 false
unfolding answer bad status push did run turns look judge restarts sum_right sum total after drops stay booked counted lost_for complete held_of untaken
two_wrong = refl

-- "Counts .. wrap modulo 2^32": bytes taken and discarded, then frames cleared; the mark stays
pub wraps : answer (answered c90 0 0 [] [] 4294967295 (five 4294967295 0 0 0 0) 0 true).reader (0 ∷ []) ≡ answered c90 2 1 [] [] 0 nothing 0 true
unfolding answer bad status push did run turns look judge restarts sum_right sum total after drops stay booked counted lost_for complete held_of untaken
wraps = refl

pub wraps_cleared : answer (answered c95 0 0 (f1 ∷ []) [] 13 nothing 4294967295 false).reader f1 ≡ answered c95 0 13 (f1 ∷ []) [] 26 nothing 0 false
unfolding answer bad status push did run turns look judge restarts sum_right sum total after drops stay booked counted lost_for complete held_of untaken
wraps_cleared = refl

-- twelve bytes are held
pub twelve : answer (fresh c90) (replicate 12 0xA5) ≡ answered c90 0 12 [] (replicate 12 0xA5) 12 nothing 0 false
unfolding answer bad status push did run turns look judge restarts sum_right sum total after drops stay booked counted lost_for complete held_of untaken
twelve = refl

-- P12: 512 zero bytes, then the wanted frame
pub p12 : answer (fresh c90) (replicate 512 0 ++ frame90) ≡ answered c90 0 525 (frame90 ∷ []) [] 525 (five 512 0 0 0 0) 0 false
unfolding answer bad status push did run turns look judge restarts sum_right sum total after drops stay booked counted lost_for complete held_of untaken
p12 = refl

-- P13: 513
pub p13 : answer (fresh c90) (replicate 513 0 ++ frame90) ≡ answered c90 2 526 (frame90 ∷ []) [] 526 (five 513 0 0 0 0) 0 true
unfolding answer bad status push did run turns look judge restarts sum_right sum total after drops stay booked counted lost_for complete held_of untaken
p13 = refl

-- bytes that are held come before the next chunk: document 01's frame, cut behind its fifth byte
pub held_first : answer (answered c90 0 0 [] (0xA5 ∷ 0x01 ∷ 0x90 ∷ 0x08 ∷ 0x02 ∷ []) 5 nothing 0 false).reader (0x0B ∷ 0x00 ∷ 0x00 ∷ 0x74 ∷ 0xB7 ∷ 0x03 ∷ 0x6A ∷ 0xE3 ∷ [])
    ≡ answered c90 0 8 (frame90 ∷ []) [] 13 nothing 0 false
unfolding answer bad status push did run turns look judge restarts sum_right sum total after drops stay booked counted lost_for complete held_of untaken
held_first = refl

-- the mark stays though the count, wrapped, is small again
pub mark_stays : answer (answered c90 0 0 [] [] 600 (five 3 0 0 0 0) 0 true).reader (0 ∷ []) ≡ answered c90 2 1 [] [] 601 (five 4 0 0 0 0) 0 true
unfolding answer bad status push did run turns look judge restarts sum_right sum total after drops stay booked counted lost_for complete held_of untaken
mark_stays = refl

-- the ledger of a stream with a byte of noise, a wrong sum, a wrong command, and frames 1, 3, 1: each line's fate, its bytes, and the frames it dropped
abbrev pub other : List ℕ
other = 0xA5 ∷ 0x01 ∷ 0x91 ∷ 0x08 ∷ 0 ∷ 0 ∷ 0 ∷ 0 ∷ 0 ∷ 0 ∷ 0 ∷ 0 ∷ 0x3F ∷ []

abbrev mixed : List ℕ
mixed = 7 ∷ 0xA5 ∷ other ++ f1 ++ f3 ++ f1

pub ledger : run c95 [] mixed
    ≡ record {
      ledger =
          record { fate = thrown noise; bytes = 7 ∷ []; cleared = 0 }
          ∷ record { fate = thrown wrong_sum; bytes = 0xA5 ∷ []; cleared = 0 }
          ∷ record { fate = thrown wrong_command; bytes = other; cleared = 0 }
          ∷ record { fate = taken_in; bytes = f1; cleared = 0 }
          ∷ record { fate = thrown wrong_number; bytes = f3; cleared = 0 }
          ∷ record { fate = taken_in; bytes = f1; cleared = 1 }
          ∷ [];
      collected = f1 ∷ [];
      rest = [];
    }
unfolding run turns look judge restarts sum_right sum total after drops stay
ledger = refl

-- and its bytes are the stream
pub ledger-bytes : spent (run c95 [] mixed).ledger ≡ mixed
unfolding spent run turns look judge restarts sum_right sum total after drops stay
ledger-bytes = refl

pub chunks_joined : joined ((1 ∷ []) ∷ [] ∷ (2 ∷ 3 ∷ []) ∷ []) ≡ 1 ∷ 2 ∷ 3 ∷ []
unfolding joined
chunks_joined = refl

-- a reader that has frames 1 and 2, counts near their ends, and the mark: a reply that comes whole then, as `gathered` has it and as the rules have it, with bytes behind it
abbrev broken_off : Reader
broken_off = (answered c95 0 0 (f1 ∷ f2 ∷ []) [] 4294967290 (five 7 0 0 0 0) 4294967295 true).reader

pub all-gathered : gathered broken_off (f1 ∷ f2 ∷ f3 ∷ []) ≡ (answered c95 0 0 (f1 ∷ f2 ∷ f3 ∷ []) [] 33 (five 7 0 0 0 0) 1 true).reader
all-gathered = refl

pub as_pushed : push broken_off (f1 ++ f2 ++ f3 ++ (0xA5 ∷ 1 ∷ [])) ≡ gathered broken_off (f1 ∷ f2 ∷ f3 ∷ [])
unfolding push did run turns look judge restarts sum_right sum total after drops stay booked counted lost_for complete held_of untaken
as_pushed = refl
