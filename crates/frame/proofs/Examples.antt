-- Worked answers of module 1 at its edges. Assumes nothing.
use Rattle.std.proofs.Common.{◌≡◌, ℕ, true, false, List, [], ◌∷◌, ◌++◌, map, replicate, refl, Ok, Err}
use Rattle.frame.specs.declared.refusal.Refusal.TheVariants.{ReplySizeError, UnexpectedFrame, CheckSumError, FrameNoError, UnknownMode, ReplyTooLong, RequestTooShort, BadState, NoRoom, UnknownCommand, CountTooLarge, ValueOutOfRange}
use Rattle.frame.specs.Frame.{sum, total}
use Rattle.frame.specs.declared.FrameKind.TheVariants.{FromBoard, Echo}
use Rattle.frame.specs.declared.command.Mosfet.TheVariants.{Discharge, Charge}
use Rattle.frame.specs.Refusals.{sound, refusal_number, answer_number}
use Rattle.frame.specs.Commands.{mosfet_command}
use Rattle.frame.specs.Reply.{answer, flag, IsSoundFrame}
use Rattle.frame.specs.Checks.{sum_of, len_check, header_check, checksum_check, frame_check, frame_kind, frame_part, part_check}

-- document 01's table of refusals, and document 02's 12
numbers :
    map refusal_number
    (ReplySizeError ∷ UnexpectedFrame ∷ CheckSumError ∷ FrameNoError ∷ UnknownMode ∷ ReplyTooLong ∷ RequestTooShort ∷ BadState ∷ NoRoom ∷ UnknownCommand ∷ CountTooLarge ∷ ValueOutOfRange ∷ [])
    ≡ 1 ∷ 2 ∷ 3 ∷ 4 ∷ 5 ∷ 6 ∷ 7 ∷ 8 ∷ 9 ∷ 10 ∷ 11 ∷ 12 ∷ []
numbers = refl

-- "the sum of a buffer of 0 or 1 bytes is 0"; of more, all bytes but the last, modulo 256
sums : map sum_of ([] ∷ (7 ∷ []) ∷ (7 ∷ 9 ∷ []) ∷ (200 ∷ 100 ∷ 1 ∷ []) ∷ []) ≡ 0 ∷ 0 ∷ 7 ∷ 44 ∷ []
unfolding sum_of sum total
sums = refl

-- two full frames and 12 bytes more
buffer : List ℕ
buffer =
    1 ∷ 1 ∷ 1 ∷ 1 ∷ 1 ∷ 1 ∷ 1 ∷ 1 ∷ 1 ∷ 1 ∷ 1 ∷ 1 ∷ 1
    ∷ 2 ∷ 2 ∷ 2 ∷ 2 ∷ 2 ∷ 2 ∷ 2 ∷ 2 ∷ 2 ∷ 2 ∷ 2 ∷ 2 ∷ 2
    ∷ replicate 12 3

-- "Finding frame k, counted from 0, hands back that part"; "a k outside the buffer's full frames is refusal 1", the part is then empty
parts : map (frame_part buffer) (0 ∷ 1 ∷ 2 ∷ 3 ∷ []) ≡ replicate 13 1 ∷ replicate 13 2 ∷ [] ∷ [] ∷ []
unfolding buffer
parts = refl

part_numbers : map (λ (k : ℕ). answer_number (part_check buffer k)) (0 ∷ 1 ∷ 2 ∷ 3 ∷ []) ≡ 0 ∷ 0 ∷ 1 ∷ 1 ∷ []
unfolding buffer
part_numbers = refl

-- 12 bytes have no frame, 13 have one
least : map (λ (n : ℕ). answer_number (part_check (replicate n 0) 0)) (0 ∷ 12 ∷ 13 ∷ []) ≡ 1 ∷ 1 ∷ 0 ∷ []
least = refl

-- a header asked of fewer than 3 bytes is refusal 1, whatever they are; then 2 "byte 0 not A5 or byte 2 not the command"
headers : map (λ (s : List ℕ). answer_number (header_check 0x90 s))
    ([] ∷ (0 ∷ 0 ∷ []) ∷ (0xA5 ∷ 0x01 ∷ []) ∷ (0xA5 ∷ 0x01 ∷ 0x90 ∷ []) ∷ (0xA4 ∷ 0x01 ∷ 0x90 ∷ []) ∷ (0xA5 ∷ 0x01 ∷ 0x91 ∷ []) ∷ [])
    ≡ 1 ∷ 1 ∷ 1 ∷ 0 ∷ 2 ∷ 2 ∷ []
unfolding header_check
headers = refl

-- 3 "sum differs"; a buffer without a last byte is refusal 1
sums_checked : map (λ (s : List ℕ). answer_number (checksum_check s)) ([] ∷ (0 ∷ []) ∷ (1 ∷ []) ∷ (7 ∷ 7 ∷ []) ∷ (7 ∷ 8 ∷ []) ∷ []) ≡ 1 ∷ 0 ∷ 3 ∷ 0 ∷ 3 ∷ []
unfolding checksum_check sum_of sum total
sums_checked = refl

-- "a sound frame from another sender, a sound frame with address 40, an unsound one (still 2 or 3)": document 01's frame, and one from 41; our
-- own 90 question, and with a byte more; the question with a wrong sum, asked as a 91, cut short
abbrev question : List ℕ
question = 0xA5 ∷ 0x40 ∷ 0x90 ∷ 0x08 ∷ 0 ∷ 0 ∷ 0 ∷ 0 ∷ 0 ∷ 0 ∷ 0 ∷ 0 ∷ 0x7D ∷ []

kinds : (frame_kind 0x90 (0xA5 ∷ 0x01 ∷ 0x90 ∷ 0x08 ∷ 0x02 ∷ 0x0B ∷ 0x00 ∷ 0x00 ∷ 0x74 ∷ 0xB7 ∷ 0x03 ∷ 0x6A ∷ 0xE3 ∷ []) ≡ Ok FromBoard)
    × (frame_kind 0x90 (0xA5 ∷ 0x41 ∷ 0x90 ∷ 0x08 ∷ 0x40 ∷ 0 ∷ 0 ∷ 0 ∷ 0 ∷ 0 ∷ 0 ∷ 0 ∷ 0xBE ∷ []) ≡ Ok FromBoard)
    × (frame_kind 0x90 question ≡ Ok Echo)
    × (frame_kind 0x90 (0xA5 ∷ 0x40 ∷ 0x90 ∷ 0x08 ∷ 0 ∷ 0 ∷ 0 ∷ 0 ∷ 0 ∷ 0 ∷ 0 ∷ 0 ∷ 0 ∷ 0x7D ∷ []) ≡ Ok Echo)
    × (frame_kind 0x90 (0xA5 ∷ 0x40 ∷ 0x90 ∷ 0x08 ∷ 0 ∷ 0 ∷ 0 ∷ 0 ∷ 0 ∷ 0 ∷ 0 ∷ 0 ∷ 0x7E ∷ []) ≡ Err CheckSumError)
    × (frame_kind 0x91 question ≡ Err UnexpectedFrame)
    × (frame_kind 0x90 (0xA5 ∷ 0x40 ∷ 0x90 ∷ 0x08 ∷ 0 ∷ 0 ∷ 0 ∷ 0 ∷ 0 ∷ 0 ∷ 0 ∷ 0x7D ∷ []) ≡ Err ReplySizeError)
unfolding frame_check len_check header_check checksum_check sum_of sum total
kinds = (refl, refl, refl, refl, refl, refl, refl)

kind_numbers : map answer_number (Ok FromBoard ∷ Ok Echo ∷ Err ReplySizeError ∷ Err UnexpectedFrame ∷ Err CheckSumError ∷ []) ≡ 0 ∷ 0 ∷ 1 ∷ 2 ∷ 3 ∷ []
kind_numbers = refl

-- "`SetDischargeMosfet` D9, `SetChargeMosfet` DA"
mosfets : map mosfet_command (Discharge ∷ Charge ∷ []) ≡ 0xD9 ∷ 0xDA ∷ []
mosfets = refl

-- `!= 0` in document 000
flags : map flag (0 ∷ 1 ∷ 2 ∷ 255 ∷ []) ≡ false ∷ true ∷ true ∷ true ∷ []
flags = refl

-- "0 done"; every other refusal "carries no record"
answers : (answer {A = ℕ} sound 7 ≡ Ok 7) × (answer {A = ℕ} (Err CheckSumError) 7 ≡ Err CheckSumError)
answers = (refl, refl)

-- of a sound reply the first 13 bytes are read, here of the question with its new sum behind it; and nothing of an unsound one
lent : IsSoundFrame 0x90 (question ++ (0xFA ∷ [])) question
unfolding frame_check len_check header_check checksum_check sum_of sum total
lent = record { checked = refl; bytes = refl }

not_lent : (frame : List ℕ) → IsSoundFrame 0x91 question frame → Err UnexpectedFrame ≡ sound
unfolding frame_check len_check header_check
not_lent frame h = h.checked
