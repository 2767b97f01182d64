-- Document 01's P2 to P5 and P8, over the definitions that the contracts cite. Assumes nothing.
use Rattle.std.proofs.Common.{◌≡◌, ℕ, true, false, List, [], ◌∷◌, map, ℤ, pos, neg_ℤ, refl}
use lib.Ieee.{Float, nan, inf, fin, binary32, of_int, of_bits, to_bits, round, div}
use Rattle.units.specs.Floats.{nearest, tenths, thousandths, current_count}
use Rattle.units.specs.SetSoc.{half_away, set_soc_count}

-- P2 0.25 and 50.5; P3 and P4 bits 3D4CCCCC and 3D4CCCCD; P5 NaN, infinity, −0.04, and besides them −infinity
percentages : List Float
percentages =
    round binary32 false 1 4
    ∷ round binary32 false 101 2
    ∷ of_bits binary32 0x3D4C_CCCC
    ∷ of_bits binary32 0x3D4C_CCCD
    ∷ nan
    ∷ inf false
    ∷ round binary32 true 4 100
    ∷ inf true
    ∷ []

p2_to_p5 : map set_soc_count percentages ≡ 3 ∷ 505 ∷ 0 ∷ 1 ∷ 0 ∷ 1000 ∷ 0 ∷ 0 ∷ []
unfolding percentages set_soc_count of_bits round
p2_to_p5 = refl

-- P8: 16,777,219 becomes 16,777,220, which is 4,194,305 * 2 ^ 2, and 16,777,217 becomes 16,777,216, which is 1 * 2 ^ 24
p8 : map (λ (n : ℕ). nearest (pos n)) (16_777_219 ∷ 16_777_217 ∷ []) ≡ fin false 4_194_305 (pos 2) ∷ fin false 1 (pos 24) ∷ []
unfolding of_int
p8 = refl

-- that these are 16,777,220 and 16,777,216
p8-exact : map (λ (n : ℕ). nearest (pos n)) (16_777_220 ∷ 16_777_216 ∷ []) ≡ fin false 4_194_305 (pos 2) ∷ fin false 1 (pos 24) ∷ []
unfolding of_int
p8-exact = refl

-- "then limits to 0..1000": 99.94 and 99.95, 100.04, 100.05, 6553.5, −0.1 and −50 percent, by their bits
limited : map (λ (b : ℕ). set_soc_count (of_bits binary32 b)) (0x42C7_E148 ∷ 0x42C7_E666 ∷ 0x42C8_147B ∷ 0x42C8_199A ∷ 0x45CC_CC00 ∷ 0xBDCC_CCCD ∷ 0xC248_0000 ∷ [])
    ≡ 999 ∷ 1000 ∷ 1000 ∷ 1000 ∷ 1000 ∷ 0 ∷ 0 ∷ []
unfolding set_soc_count of_bits
limited = refl

-- "the count divided by 10.0": 52.3, −12.1, 0.1 and −3000 as f32, by their bits
divided_by_10 : map (λ (z : ℤ). to_bits binary32 (tenths z)) (pos 523 ∷ neg_ℤ (pos 121) ∷ pos 1 ∷ current_count 0 ∷ [])
    ≡ 0x4251_3333 ∷ 0xC141_999A ∷ 0x3DCC_CCCD ∷ 0xC53B_8000 ∷ []
unfolding of_int div to_bits
divided_by_10 = refl

-- "thousandths by 1000.0": 3.301 and 0.001; and P8's capacities, which are rounded before they are divided
divided_by_1000 : map (λ (n : ℕ). to_bits binary32 (thousandths (pos n))) (3301 ∷ 1 ∷ 16_777_219 ∷ 16_777_217 ∷ [])
    ≡ 0x4053_4396 ∷ 0x3A83_126F ∷ 0x4683_1271 ∷ 0x4683_126F ∷ []
unfolding of_int div to_bits
divided_by_1000 = refl

-- "rounds halves away from zero": 5 / 2, −5 / 2, 7 / 3 and −7 / 3
halves : half_away false 5 2 ∷ half_away true 5 2 ∷ half_away false 7 3 ∷ half_away true 7 3 ∷ [] ≡ pos 3 ∷ neg_ℤ (pos 3) ∷ pos 2 ∷ neg_ℤ (pos 2) ∷ []
unfolding half_away
halves = refl
