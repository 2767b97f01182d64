-- Document 01's example of `readreply`, from the input's bytes to the text, and the inputs that are refused. Assumes nothing.
use mathlib.Core.Path.{◌≡◌, refl, ap, ◌∙◌}
use mathlib.Core.Bool.{true, false}
use mathlib.Core.List.{List, [], ◌∷◌, map}
use Prim.Native.Nat.{ℕ}
use native.Mathlib.Omega.{arith}
use Rattle.frame.specs.Frame.{total, sum}
use Rattle.text.specs.Words.{word}
use Rattle.text.specs.Text.{decimal, hex2, shown_field, shown_line}
use Rattle.frame.specs.Checks.{len_check, header_check, checksum_check, frame_check}
use Rattle.report.specs.Report.{answer_text}
use Rattle.rules.specs.Rules.{sum_right, restarts, judge, look, stay, after, drops}
use Rattle.rules.specs.Ledger.{turns, run, total as counted, lost_for}
use Rattle.rules.specs.Reader.{Reader, Answer, fresh, complete, held_of, untaken, did, booked, push, bad, answer, joined, status}
use Rattle.rules.proofs.Examples.{five, answered, c90, frame90, line90}
use Rattle.reader.specs.View.{chop, front, view}
use Rattle.reader.specs.Told.{fresh_counts}
use Rattle.report.proofs.Examples.{example}
use Rattle.reply.specs.declared.Input.{Input}
use Rattle.reply.specs.declared.Input.TheVariants.{Nothing, Command, Stream}
use Rattle.reply.specs.Output.{tally, known, reply_size_for, asked, reported, output_of}
use Rattle.reply.specs.Input.{nothing, first, stream, state_of, begun, streamed, from_second, from_first, pushed, printed, tally_of, HasSeven, HoweverCut, OfSomeInput}

-- "Input `90 00 00 A5 A5 01 90 08 02 0B 00 00 74 B7 03 6A E3` prints, whole"
pub document_01 :
    output_of (0x90 ∷ 0x00 ∷ 0x00 ∷ 0xA5 ∷ frame90)
    ≡ word "reply 90 taken 15 held 0 frames 1 discarded 2 cleared 0 noise 1 sum 1 command 0 number 0 echo 0\ntotal_voltage 523\ncurrent -121\nsoc_percent 874\n"
unfolding reply_size_for reported joined status
document_01 = ap (λ (a : Answer). reported 0x90 0 a.reader) line90 ∙ example

-- "Refusals 7 and 10, tested in that order, print only `refused N`"
pub refusals :
    ◌≡◌ {A = List (List ℕ)}
    (output_of [] ∷ output_of (0x99 ∷ []) ∷ output_of (0x99 ∷ 0x00 ∷ []) ∷ output_of (0x8F ∷ 0x00 ∷ frame90) ∷ [])
    (word "refused 7\n" ∷ word "refused 7\n" ∷ word "refused 10\n" ∷ word "refused 10\n" ∷ [])
unfolding reported shown_field shown_line decimal
refusals = refl

-- "command not 90 to 98"
pub commands : map known (0x8F ∷ 0x90 ∷ 0x98 ∷ 0x99 ∷ []) ≡ false ∷ true ∷ true ∷ false ∷ []
commands = refl

-- 95 and 96 with counts 0, 8 and 255, and one frame whatever the count for 90 and 97
pub sizes : reply_size_for 0x95 0 ∷ reply_size_for 0x95 8 ∷ reply_size_for 0x95 255 ∷ reply_size_for 0x96 0 ∷ reply_size_for 0x96 8 ∷ reply_size_for 0x96 255 ∷ reply_size_for 0x90 255 ∷ reply_size_for 0x97 255 ∷ []
    ≡ 0 ∷ 39 ∷ 1105 ∷ 0 ∷ 26 ∷ 481 ∷ 13 ∷ 13 ∷ []
unfolding reply_size_for
sizes = refl

-- and the frames that such a reader wants, by command and count
pub wants : asked 0x95 8 ∷ asked 0x96 8 ∷ asked 0x90 8 ∷ []
    ≡ record { command = 0x95; wanted = 3; strict = false } ∷ record { command = 0x96; wanted = 2; strict = false } ∷ record { command = 0x90; wanted = 1; strict = false } ∷ []
unfolding reply_size_for
wants = refl

-- ---- the input in chunks

abbrev none : Reader
none = fresh record { command = 0; wanted = 0; strict = false }

abbrev fresh95 : Reader
fresh95 = fresh record { command = 0x95; wanted = 3; strict = false }

-- nothing; a first byte; a first byte twice, the second of which is the count; and these in one chunk
pub first_two :
    (state_of begun [] ≡ nothing)
    × (state_of (Stream (record { command = 0x90; count = 5; counts = fresh_counts 0x90 1 false })) [] ≡ stream 0x90 5 (fresh c90))
    × (pushed nothing [] ≡ nothing)
    × (pushed nothing (0x95 ∷ []) ≡ first 0x95)
    × (pushed (first 0x95) [] ≡ first 0x95)
    × (pushed (first 0x95) (8 ∷ []) ≡ stream 0x95 8 fresh95)
    × (pushed nothing (0x95 ∷ 8 ∷ []) ≡ stream 0x95 8 fresh95)
unfolding state_of view chop front pushed from_first from_second streamed reply_size_for answer bad push did run turns look judge restarts sum_right sum total after drops stay booked counted lost_for complete held_of untaken
first_two = (refl, refl, refl, refl, refl, refl, refl)

-- the stream goes to the reader, cut or whole; where no such command can be asked, nothing is read
pub streams :
    (pushed (stream 0x90 5 (fresh c90)) (0 ∷ 0xA5 ∷ []) ≡ stream 0x90 5 (answered c90 0 0 [] (0xA5 ∷ []) 2 (five 1 0 0 0 0) 0 false).reader)
    × (pushed (stream 0x90 5 (answered c90 0 0 [] (0xA5 ∷ []) 2 (five 1 0 0 0 0) 0 false).reader) frame90 ≡ stream 0x90 5 (answered c90 0 0 (frame90 ∷ []) [] 15 (five 1 1 0 0 0) 0 false).reader)
    × (pushed nothing (0x90 ∷ 5 ∷ 0 ∷ 0xA5 ∷ frame90) ≡ stream 0x90 5 (answered c90 0 0 (frame90 ∷ []) [] 15 (five 1 1 0 0 0) 0 false).reader)
    × (pushed (stream 0x99 5 (fresh c90)) frame90 ≡ stream 0x99 5 (fresh c90))
unfolding pushed from_first from_second streamed reply_size_for answer bad push did run turns look judge restarts sum_right sum total after drops stay booked counted lost_for complete held_of untaken
streams = (refl, refl, refl, refl)

-- what is printed then: 7 before two bytes have come, 10, and else what the reader has
pub prints :
    (printed nothing ≡ word "refused 7\n")
    × (printed (first 0x90) ≡ word "refused 7\n")
    × (printed (stream 0x99 0x90 none) ≡ word "refused 10\n")
    × (printed (stream 0x90 0 (fresh c90)) ≡ word "reply 90 taken 0 held 0 frames 0 discarded 0 cleared 0 noise 0 sum 0 command 0 number 0 echo 0\nrefused 1\n")
unfolding printed reported joined status shown_field shown_line decimal hex2 answer_text frame_check len_check header_check checksum_check
prints = (refl, refl, refl, refl)

-- a tally of 7, as the reader's, and of none other length; before the stream there is none
seven : HasSeven Nothing × HasSeven (Command 0x90) × HasSeven (Stream (record { command = 0x90; count = 5; counts = fresh_counts 0x90 1 false }))
seven = (tt, tt, refl)

abbrev tallied_by : List ℕ → Input
tallied_by tally = Stream record { command = 0x90; count = 5; counts = record { command = 0x90; mark = false; strict = false; tally = tally; wanted = 1; collected = 0; held = 0 } }

six : HasSeven (tallied_by (0 ∷ 0 ∷ 0 ∷ 0 ∷ 0 ∷ 0 ∷ [])) → ⊥
six e = omega (arith, e)

eight : HasSeven (tallied_by (0 ∷ 0 ∷ 0 ∷ 0 ∷ 0 ∷ 0 ∷ 0 ∷ 0 ∷ [])) → ⊥
eight e = omega (arith, e)

-- the counts line's numbers from the struct, each from its own
pub tallied : tally_of (record { command = 0x95; mark = false; strict = false; tally = 9 ∷ 8 ∷ 1 ∷ 2 ∷ 3 ∷ 10 ∷ 7 ∷ []; wanted = 6; collected = 5; held = 4 })
    ≡ record { taken = 9; held = 4; frames = 5; discarded = 24; cleared = 7; noise = 8; sum = 1; command = 2; number = 3; echo = 10 }
tallied = refl

-- places that a tally has not are 0; and of a reader as the rules see it, each count from its own
tallied_none : tally_of (record { command = 0x95; mark = false; strict = false; tally = []; wanted = 6; collected = 5; held = 4 })
    ≡ record { taken = 0; held = 4; frames = 5; discarded = 0; cleared = 0; noise = 0; sum = 0; command = 0; number = 0; echo = 0 }
tallied_none = refl

tallied_reader : tally (answered c90 0 0 (frame90 ∷ []) (0xA5 ∷ 1 ∷ []) 9 (five 1 2 3 4 6) 7 false).reader
    ≡ record { taken = 9; held = 2; frames = 1; discarded = 16; cleared = 7; noise = 1; sum = 2; command = 3; number = 4; echo = 6 }
tallied_reader = refl

-- what `HoweverCut` gives of an input in two chunks, whoever pushed them by that contract: the text of its bytes
pub in_two : HoweverCut → (s t f : List ℕ) (i₁ : Input) (f₁ : List ℕ) (i₂ : Input) (f₂ : List ℕ)
    → state_of i₁ f₁ ≡ pushed (state_of begun f) s → state_of i₂ f₂ ≡ pushed (state_of i₁ f₁) t → printed (state_of i₂ f₂) ≡ output_of (joined (s ∷ t ∷ []))
in_two cut s t f i₁ f₁ i₂ f₂ p q = cut (s ∷ t ∷ []) f i₂ f₂ (i₁, f₁, p, (i₂, f₂, q, (refl, refl)))

-- and what is known of a program that read no one knows what
pub of_some : (i : Input) (f : List ℕ) → OfSomeInput i f → (s : List ℕ) × (printed (state_of i f) ≡ output_of s)
of_some i f known = known
