-- Document 01's P6, and its record to the last bit, over the definitions that the contracts cite. Assumes nothing.
use mathlib.Core.Path.{◌≡◌, refl}
use Prim.Native.Nat.{ℕ}
use Rattle.std.proofs.Common.{Ok, Err}
use mathlib.Core.List.{List, [], ◌∷◌, map}
use lib.IntN.{pos, neg_ℤ}
use lib.Ieee.{binary32, of_bits, of_int, div}
use Rattle.frame.specs.declared.refusal.Refusal.TheVariants.{CheckSumError}
use Rattle.frame.specs.Refusals.{answer_number}
use Rattle.frame.specs.Checks.{frame_check}
use Rattle.soc.specs.Soc.{decoded_soc_counts, decoded_soc}

-- P6: the frame, and the frame with a 00 appended
replies90 : List (List ℕ)
replies90 =
    (0xA5 ∷ 0x01 ∷ 0x90 ∷ 0x08 ∷ 0x02 ∷ 0x0B ∷ 0x00 ∷ 0x00 ∷ 0x74 ∷ 0xB7 ∷ 0x03 ∷ 0x6A ∷ 0xE3 ∷ [])
    ∷ (0xA5 ∷ 0x01 ∷ 0x90 ∷ 0x08 ∷ 0x02 ∷ 0x0B ∷ 0x00 ∷ 0x00 ∷ 0x74 ∷ 0xB7 ∷ 0x03 ∷ 0x6A ∷ 0xE3 ∷ 0x00 ∷ [])
    ∷ []

-- "counts 523, −121, 874. With a 00 appended it is refused 3."
p6 : map decoded_soc_counts replies90
    ≡ Ok (record { total_voltage = 523; current = neg_ℤ (pos 121); soc_percent = 874 })
    ∷ Err CheckSumError
    ∷ []
unfolding replies90 frame_check
p6 = refl

p6_numbers : map (λ s. answer_number (frame_check 0x90 s)) replies90 ≡ 0 ∷ 3 ∷ []
unfolding replies90 frame_check
p6_numbers = refl

-- 52.3, −12.1 and 87.4 as the Rust's f32
record_90 : map decoded_soc replies90
    ≡ Ok (record { total_voltage = of_bits binary32 0x4251_3333; current = of_bits binary32 0xC141_999A; soc_percent = of_bits binary32 0x42AE_CCCD })
    ∷ Err CheckSumError
    ∷ []
unfolding replies90 frame_check of_int div of_bits
record_90 = refl
