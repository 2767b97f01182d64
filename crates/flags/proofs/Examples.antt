-- Document 01's P9 and P10, the order of refusals of a 97 and a 98 reply, and which bit is what, over the definitions that the contracts
-- cite. Assumes nothing.
use mathlib.Core.Path.{◌≡◌, refl}
use Prim.Native.Nat.{ℕ}
use mathlib.Core.Bool.{Bool, true, false}
use mathlib.Core.List.{List, [], ◌∷◌, ◌++◌, map}
use lib.ListN.{take, length, replicate}
use Rattle.wire.specs.Lists.{firsts}
use Rattle.std.specs.Prelude.{Result, Ok}
use Rattle.frame.specs.declared.refusal.Refusal.{Refusal}
use Rattle.frame.specs.Refusals.{answer_number}
use Rattle.frame.specs.Frame.{total, sum, summed, frame}
use Rattle.frame.specs.Checks.{sum_of, len_check, header_check, checksum_check, frame_check}
use Rattle.list.specs.Listed.{gate}
use Rattle.flags.specs.Balance.{flag_count, flag_at, balance_check, DecodesBalance}
use Rattle.flags.specs.Faults.{faults, faults_check, DecodesFaults}

-- a sound reply with byte 6 being 3
abbrev three : ℕ → List ℕ
three command = frame 1 command (0 ∷ 0 ∷ 3 ∷ 0 ∷ 0 ∷ 0 ∷ 0 ∷ 0 ∷ [])

-- a reply with every bit set
abbrev all : List ℕ
all = frame 1 0x98 (255 ∷ 255 ∷ 255 ∷ 255 ∷ 255 ∷ 255 ∷ 255 ∷ 255 ∷ [])

-- the number of flags that are stored for a count
abbrev flags_for : ℕ → ℕ
flags_for n = length (firsts (flag_at (three 0x97)) (flag_count n))

examples :
    ◌≡◌ {A = List (List ℕ)}
    -- P9
    (map flags_for (0 ∷ 49 ∷ 1 ∷ 48 ∷ 255 ∷ [])
    -- P10
    ∷ faults (three 0x98)
    ∷ faults all
    -- 97: 0; 1 before 9; 9 before 2, with one place for n = 0 and 48 for n = 255; 2 before 3; 3, also where a 00 follows the frame
    ∷ (answer_number (balance_check (three 0x97) 48 48)
    ∷ answer_number (balance_check (take 12 (three 0x97)) 48 47)
    ∷ answer_number (balance_check (three 0x98) 0 0)
    ∷ answer_number (balance_check (three 0x98) 255 47)
    ∷ answer_number (balance_check (three 0x98 ++ (0 ∷ [])) 255 48)
    ∷ answer_number (balance_check (three 0x97 ++ (0 ∷ [])) 255 48)
    ∷ [])
    -- 98: the same
    ∷ (answer_number (faults_check (three 0x98) 48)
    ∷ answer_number (faults_check (take 12 (three 0x98)) 47)
    ∷ answer_number (faults_check (three 0x97) 47)
    ∷ answer_number (faults_check (three 0x97 ++ (0 ∷ [])) 48)
    ∷ answer_number (faults_check (three 0x98 ++ (0 ∷ [])) 48)
    ∷ [])
    ∷ [])
    ((1 ∷ 48 ∷ 1 ∷ 48 ∷ 48 ∷ [])
    ∷ (17 ∷ 16 ∷ [])
    ∷ (firsts (λ i. i) 16 ++ (17 ∷ 16 ∷ []) ++ (18 ∷ 19 ∷ 20 ∷ 21 ∷ 22 ∷ 23 ∷ 24 ∷ 25 ∷ 26 ∷ 27 ∷ 28 ∷ 29 ∷ 30 ∷ 31 ∷ 32 ∷ 33 ∷ 34 ∷ 35 ∷ 36 ∷ 37 ∷ 38 ∷ 39 ∷ 40 ∷ 41 ∷ 42 ∷ 43 ∷ 44 ∷ 45 ∷ 46 ∷ 47 ∷ []))
    ∷ (0 ∷ 1 ∷ 9 ∷ 9 ∷ 2 ∷ 3 ∷ [])
    ∷ (0 ∷ 1 ∷ 9 ∷ 2 ∷ 3 ∷ [])
    ∷ [])
unfolding total sum summed frame sum_of len_check header_check checksum_check frame_check gate faults
examples = refl

-- a 98 reply with these data bytes
abbrev told : List ℕ → List ℕ
told bytes = faults (frame 1 0x98 bytes)

-- the lowest and the highest bit of each of bytes 4 to 6, as docs/FAULTS.md has them from the Rust
low-bytes :
    told (0x81 ∷ 0 ∷ 0 ∷ 0 ∷ 0 ∷ 0 ∷ 0 ∷ 0 ∷ []) ∷ told (0 ∷ 0x81 ∷ 0 ∷ 0 ∷ 0 ∷ 0 ∷ 0 ∷ 0 ∷ []) ∷ told (0 ∷ 0 ∷ 0x81 ∷ 0 ∷ 0 ∷ 0 ∷ 0 ∷ 0 ∷ []) ∷ []
    ≡ (0 ∷ 7 ∷ []) ∷ (8 ∷ 15 ∷ []) ∷ (16 ∷ 23 ∷ []) ∷ []
unfolding frame summed sum total faults
low-bytes = refl

-- of bytes 7 to 11, whose bits 4 to 7 in bytes 7 and 10 and all of byte 11 are no faults
high-bytes :
    told (0 ∷ 0 ∷ 0 ∷ 0xF9 ∷ 0 ∷ 0 ∷ 0 ∷ 0 ∷ [])
    ∷ told (0 ∷ 0 ∷ 0 ∷ 0 ∷ 0x81 ∷ 0 ∷ 0 ∷ 0 ∷ [])
    ∷ told (0 ∷ 0 ∷ 0 ∷ 0 ∷ 0 ∷ 0x81 ∷ 0 ∷ 0 ∷ [])
    ∷ told (0 ∷ 0 ∷ 0 ∷ 0 ∷ 0 ∷ 0 ∷ 0xF9 ∷ 0 ∷ [])
    ∷ told (0 ∷ 0 ∷ 0 ∷ 0 ∷ 0 ∷ 0 ∷ 0 ∷ 0xFF ∷ [])
    ∷ []
    ≡ (24 ∷ 27 ∷ []) ∷ (28 ∷ 35 ∷ []) ∷ (36 ∷ 43 ∷ []) ∷ (44 ∷ 47 ∷ []) ∷ [] ∷ []
unfolding frame summed sum total faults
high-bytes = refl

-- "48 flags from byte 4, lowest bit first": flags 0, 7, 8, 9, 23, 24, 46 and 47, where the bits of 0, 8, 23 and 47 are set
flags_at : map (flag_at (frame 1 0x97 (0x01 ∷ 0x01 ∷ 0x80 ∷ 0 ∷ 0 ∷ 0x80 ∷ 0 ∷ 0 ∷ []))) (0 ∷ 7 ∷ 8 ∷ 9 ∷ 23 ∷ 24 ∷ 46 ∷ 47 ∷ [])
    ≡ true ∷ false ∷ true ∷ false ∷ true ∷ false ∷ false ∷ true ∷ []
unfolding frame summed sum total
flags_at = refl

-- "48 flags from byte 4, lowest bit first": bits 0 of byte 5 and 7 of byte 9 are flags 8 and 47
abbrev outer : List ℕ
outer = frame 1 0x97 (0 ∷ 0x01 ∷ 0 ∷ 0 ∷ 0 ∷ 0x80 ∷ 0 ∷ 0 ∷ [])

outer_flags : map (flag_at outer) (0 ∷ 7 ∷ 8 ∷ 9 ∷ 46 ∷ 47 ∷ []) ≡ false ∷ false ∷ true ∷ false ∷ false ∷ true ∷ []
unfolding total sum summed frame
outer_flags = refl

-- what the statements say of the answer and of the lent places
nine_flags : (r : Result ℕ Refusal) (exit : List Bool) → DecodesBalance outer 9 (replicate 10 true) r exit
    → (r ≡ Ok 9) × (exit ≡ replicate 8 false ++ (true ∷ true ∷ []))
unfolding total sum summed frame sum_of len_check header_check checksum_check frame_check gate
nine_flags r exit d = (d.answer, d.left)

two-faults : (r : Result ℕ Refusal) (exit : List ℕ) → DecodesFaults (three 0x98) (replicate 48 99) r exit → (r ≡ Ok 2) × (exit ≡ 17 ∷ 16 ∷ replicate 46 99)
unfolding total sum summed frame sum_of len_check header_check checksum_check frame_check gate faults
two-faults r exit d = (d.answer, d.left)
