-- Worked answers of document 02, K2, for 97 and 98: the bytes, the refusals and their order, and what the flags of a 98 mean. Assumes nothing.
use mathlib.Core.Path.{◌≡◌, refl}
use Prim.Native.Nat.{ℕ}
use mathlib.Core.Bool.{Bool, true, false}
use mathlib.Core.List.{List, [], ◌∷◌, ◌++◌, map}
use lib.ListN.{replicate}
use Rattle.wire.specs.Bytes.{bit}
use Rattle.wire.specs.Lists.{firsts}
use Rattle.frame.specs.declared.refusal.Refusal.TheVariants.{NoRoom, ValueOutOfRange}
use Rattle.frame.specs.Refusals.{answer_number}
use Rattle.frame.specs.Frame.{total, sum, summed, frame}
use Rattle.std.specs.Prelude.{Result, Ok, Err}
use Rattle.frame.specs.declared.refusal.Refusal.{Refusal}
use Rattle.writing.specs.Replies.{WritesFrame}
use Rattle.writing_flags.specs.Replies.{balance_reply, balance_list_check, WritesBalance, faults_reply}
use Rattle.writing_flags.specs.Meant.{set_among, set_faults}

-- n flags, the lowest bit of a number first
abbrev flags : ℕ → ℕ → List Bool
flags n number = firsts (bit number) n

-- faults 0, 15, 16, 17, 23, 24, 27, 28, 43, 44 and 47
abbrev edges : List Bool
edges = flags 48 0x9800_1983_8001

-- every second flag, from the first on: so no two neighbours can be exchanged
abbrev halves : List Bool
halves = flags 48 0x5555_5555_5555

-- 1, 9 and 48 flags; of a list of 49, which is refused, the last would be in no byte
balance-bytes :
    balance_reply 1 (true ∷ []) ∷ balance_reply 1 halves ∷ balance_reply 1 (flags 9 0x181) ∷ balance_reply 1 (flags 48 0x8B89_8785_8381) ∷ balance_reply 0x40 (replicate 49 true) ∷ []
    ≡ (0xA5 ∷ 0x01 ∷ 0x97 ∷ 0x08 ∷ 0x01 ∷ 0x00 ∷ 0x00 ∷ 0x00 ∷ 0x00 ∷ 0x00 ∷ 0x00 ∷ 0x00 ∷ 0x46 ∷ [])
    ∷ (0xA5 ∷ 0x01 ∷ 0x97 ∷ 0x08 ∷ 0x55 ∷ 0x55 ∷ 0x55 ∷ 0x55 ∷ 0x55 ∷ 0x55 ∷ 0x00 ∷ 0x00 ∷ 0x43 ∷ [])
    ∷ (0xA5 ∷ 0x01 ∷ 0x97 ∷ 0x08 ∷ 0x81 ∷ 0x01 ∷ 0x00 ∷ 0x00 ∷ 0x00 ∷ 0x00 ∷ 0x00 ∷ 0x00 ∷ 0xC7 ∷ [])
    ∷ (0xA5 ∷ 0x01 ∷ 0x97 ∷ 0x08 ∷ 0x81 ∷ 0x83 ∷ 0x85 ∷ 0x87 ∷ 0x89 ∷ 0x8B ∷ 0x00 ∷ 0x00 ∷ 0x69 ∷ [])
    ∷ (0xA5 ∷ 0x40 ∷ 0x97 ∷ 0x08 ∷ 0xFF ∷ 0xFF ∷ 0xFF ∷ 0xFF ∷ 0xFF ∷ 0xFF ∷ 0x00 ∷ 0x00 ∷ 0x7E ∷ [])
    ∷ []
unfolding frame summed sum total
balance-bytes = refl

-- 12 for 0 and 49 flags and for none of 1 and 48; 9 for 12 places and for none of 13 and 14; 12 before 9
balance_refusals :
    (map (λ n. answer_number (balance_list_check n 13)) (0 ∷ 1 ∷ 48 ∷ 49 ∷ 256 ∷ [])
    ∷ map (λ room. answer_number (balance_list_check 1 room)) (0 ∷ 12 ∷ 13 ∷ 14 ∷ [])
    ∷ map (λ n. answer_number (balance_list_check n 12)) (0 ∷ 48 ∷ 49 ∷ [])
    ∷ [])
    ≡ (12 ∷ 0 ∷ 0 ∷ 12 ∷ 12 ∷ []) ∷ (9 ∷ 9 ∷ 0 ∷ 0 ∷ []) ∷ (12 ∷ 9 ∷ 12 ∷ []) ∷ []
balance_refusals = refl

-- the high halves of bytes 7 and 10 stay free; with every flag set, and one more than there are. The bits lie in rising order: 16 is bit 0 of byte 6
faults-bytes : faults_reply 1 edges ∷ faults_reply 1 halves ∷ faults_reply 0x40 (replicate 49 true) ∷ []
    ≡ (0xA5 ∷ 0x01 ∷ 0x98 ∷ 0x08 ∷ 0x01 ∷ 0x80 ∷ 0x83 ∷ 0x09 ∷ 0x01 ∷ 0x80 ∷ 0x09 ∷ 0x00 ∷ 0xDD ∷ [])
    ∷ (0xA5 ∷ 0x01 ∷ 0x98 ∷ 0x08 ∷ 0x55 ∷ 0x55 ∷ 0x55 ∷ 0x05 ∷ 0x55 ∷ 0x55 ∷ 0x05 ∷ 0x00 ∷ 0xF9 ∷ [])
    ∷ (0xA5 ∷ 0x40 ∷ 0x98 ∷ 0x08 ∷ 0xFF ∷ 0xFF ∷ 0xFF ∷ 0x0F ∷ 0xFF ∷ 0xFF ∷ 0x0F ∷ 0x00 ∷ 0x9E ∷ [])
    ∷ []
unfolding frame summed sum total
faults-bytes = refl

-- "byte 6 .. lists position 17, then 16"
meant : set_faults [] ∷ set_faults edges ∷ set_faults (replicate 49 true) ∷ []
    ≡ []
    ∷ (0 ∷ 15 ∷ 17 ∷ 16 ∷ 23 ∷ 24 ∷ 27 ∷ 28 ∷ 43 ∷ 44 ∷ 47 ∷ [])
    ∷ (firsts (λ i. i) 16 ++ (17 ∷ 16 ∷ []) ++ (18 ∷ 19 ∷ 20 ∷ 21 ∷ 22 ∷ 23 ∷ 24 ∷ 25 ∷ 26 ∷ 27 ∷ 28 ∷ 29 ∷ 30 ∷ 31 ∷ 32 ∷ 33 ∷ 34 ∷ 35 ∷ 36 ∷ 37 ∷ 38 ∷ 39 ∷ 40 ∷ 41 ∷ 42 ∷ 43 ∷ 44 ∷ 45 ∷ 46 ∷ 47 ∷ []))
    ∷ []
unfolding set_faults
meant = refl

-- where the list has no flag, none is set
meant_past : set_among (true ∷ false ∷ []) (2 ∷ 1 ∷ 0 ∷ []) ≡ 0 ∷ []
meant_past = refl

-- what the statements say of the answer and of the lent places
one-flag : (r : Result ℕ Refusal) (exit : List ℕ) → WritesBalance 1 (true ∷ []) (replicate 14 99) r exit
    → (r ≡ Ok 13) × (exit ≡ 0xA5 ∷ 0x01 ∷ 0x97 ∷ 0x08 ∷ 0x01 ∷ 0x00 ∷ 0x00 ∷ 0x00 ∷ 0x00 ∷ 0x00 ∷ 0x00 ∷ 0x00 ∷ 0x46 ∷ 99 ∷ [])
unfolding frame summed sum total
one-flag r exit d = (d.answer, d.left)

no_flag : (r : Result ℕ Refusal) (exit : List ℕ) → WritesBalance 1 [] (replicate 12 99) r exit → (r ≡ Err ValueOutOfRange) × (exit ≡ replicate 12 99)
no_flag r exit d = (d.answer, d.left)

many_flags : (r : Result ℕ Refusal) (exit : List ℕ) → WritesBalance 1 (replicate 48 true) (replicate 12 99) r exit → (r ≡ Err NoRoom) × (exit ≡ replicate 12 99)
many_flags r exit d = (d.answer, d.left)

all_edges : (r : Result ℕ Refusal) (exit : List ℕ) → WritesFrame (faults_reply 1 edges) (replicate 13 99) r exit
    → (r ≡ Ok 13) × (exit ≡ 0xA5 ∷ 0x01 ∷ 0x98 ∷ 0x08 ∷ 0x01 ∷ 0x80 ∷ 0x83 ∷ 0x09 ∷ 0x01 ∷ 0x80 ∷ 0x09 ∷ 0x00 ∷ 0xDD ∷ [])
unfolding frame summed sum total
all_edges r exit d = (d.answer, d.left)
