-- A 91 reply, its counts and its record to the last bit, over the definitions that the contracts cite. Assumes nothing.
use mathlib.Core.Path.{◌≡◌, refl}
use Prim.Native.Nat.{ℕ}
use Rattle.std.proofs.Common.{Ok}
use mathlib.Core.List.{List, [], ◌∷◌}
use lib.Ieee.{binary32, of_bits, of_int, div}
use Rattle.frame.specs.Frame.{total, sum, summed, frame}
use Rattle.frame.specs.Checks.{frame_check}
use Rattle.cell_voltage_range.specs.CellVoltageRange.{decoded_cell_voltage_range_counts, decoded_cell_voltage_range}

-- 3,301 mV of cell 3 and 3,296 mV of cell 8
reply : List ℕ
reply = frame 1 0x91 (0x0C ∷ 0xE5 ∷ 3 ∷ 0x0C ∷ 0xE0 ∷ 8 ∷ 0 ∷ 0 ∷ [])

counts : decoded_cell_voltage_range_counts reply
    ≡ Ok (record { highest_voltage = 3301; highest_cell = 3; lowest_voltage = 3296; lowest_cell = 8 })
unfolding reply frame summed sum total frame_check
counts = refl

-- 3.301 and 3.296 as the Rust's f32
record_91 : decoded_cell_voltage_range reply
    ≡ Ok (record { highest_voltage = of_bits binary32 0x4053_4396; highest_cell = 3; lowest_voltage = of_bits binary32 0x4052_F1AA; lowest_cell = 8 })
unfolding reply frame summed sum total frame_check of_int div of_bits
record_91 = refl
