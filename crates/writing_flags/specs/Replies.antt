-- Document 02, K2, "Replies for the bench": balance flags and faults, as a board sends them. Definitions only.
-- Which bit means what is document 01's, module 4; "Bytes without meaning are zero, a true flag is 1."
use Rattle.std.specs.Prelude.{ℕ, Bool, ◌||◌, List, Result, [], ◌∷◌, ltb, length}
use Rattle.wire.specs.Bytes.{byte_of}
use Rattle.frame.specs.declared.refusal.Refusal.{Refusal}
use Rattle.frame.specs.declared.refusal.Refusal.TheVariants.{ValueOutOfRange}
use Rattle.frame.specs.Refusals.{Check, refuse}
use Rattle.frame.specs.Frame.{frame}
use Rattle.list.specs.Listed.{Stores}
use Rattle.writing.specs.Replies.{room_check}

-- 97: "48 flags from byte 4, lowest bit first"; past the last flag, and in bytes 10 and 11, no bit has a meaning
abbrev pub balance_reply : ℕ → List Bool → List ℕ
balance_reply address flags = frame address 0x97
    (byte_of flags 0 8 ∷ byte_of flags 8 8 ∷ byte_of flags 16 8 ∷ byte_of flags 24 8 ∷ byte_of flags 32 8 ∷ byte_of flags 40 8 ∷ 0 ∷ 0 ∷ [])

-- "12, ValueOutOfRange, for .. a balance list not of 1 to 48 flags; then 9"
abbrev pub balance_list_check : ℕ → ℕ → Check
balance_list_check n room = refuse (ltb n 1 || ltb 48 n) ValueOutOfRange (room_check 13 room)

abbrev pub WritesBalance : ℕ → List Bool → List ℕ → Result ℕ Refusal → List ℕ → Type 0
WritesBalance address flags out r exit = Stores (balance_list_check (length flags) (length out)) (balance_reply address flags) out r exit

-- 98: "Faults are 48 flags by position": 24 to 27 in the low half of byte 7, 44 to 47 in that of byte 10; the high halves and byte 11 are without meaning
abbrev pub faults_reply : ℕ → List Bool → List ℕ
faults_reply address flags = frame address 0x98
    (byte_of flags 0 8 ∷ byte_of flags 8 8 ∷ byte_of flags 16 8 ∷ byte_of flags 24 4 ∷ byte_of flags 28 8 ∷ byte_of flags 36 8 ∷ byte_of flags 44 4 ∷ 0 ∷ [])
