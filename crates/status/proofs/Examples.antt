-- A 94 reply as the Rust reads it, and each input and output by its bit. Assumes nothing.
use Prim.Native.Nat.{ℕ}
use Rattle.std.proofs.Common.{Ok, Err}
use mathlib.Core.Path.{◌≡◌, refl}
use mathlib.Core.Bool.{Bool, true, false}
use mathlib.Core.List.{List, [], ◌∷◌, map}
use Rattle.frame.specs.declared.refusal.Refusal.TheVariants.{CheckSumError}
use Rattle.frame.specs.Frame.{total, sum, summed, frame}
use Rattle.frame.specs.Checks.{sum_of, len_check, header_check, checksum_check, frame_check}
use Rattle.status.specs.declared.IOState.{IOState}
use Rattle.status.specs.Status.{io_state, decoded_status}

-- the eight flags in document 01's order
abbrev flags : IOState → List Bool
flags s = s.di1 ∷ s.di2 ∷ s.di3 ∷ s.di4 ∷ s.do1 ∷ s.do2 ∷ s.do3 ∷ s.do4 ∷ []

-- one bit at a time, the lowest first
bits : map (λ (b : ℕ). flags (io_state b)) (0x01 ∷ 0x02 ∷ 0x04 ∷ 0x08 ∷ 0x10 ∷ 0x20 ∷ 0x40 ∷ 0x80 ∷ [])
    ≡ (true ∷ false ∷ false ∷ false ∷ false ∷ false ∷ false ∷ false ∷ [])
    ∷ (false ∷ true ∷ false ∷ false ∷ false ∷ false ∷ false ∷ false ∷ [])
    ∷ (false ∷ false ∷ true ∷ false ∷ false ∷ false ∷ false ∷ false ∷ [])
    ∷ (false ∷ false ∷ false ∷ true ∷ false ∷ false ∷ false ∷ false ∷ [])
    ∷ (false ∷ false ∷ false ∷ false ∷ true ∷ false ∷ false ∷ false ∷ [])
    ∷ (false ∷ false ∷ false ∷ false ∷ false ∷ true ∷ false ∷ false ∷ [])
    ∷ (false ∷ false ∷ false ∷ false ∷ false ∷ false ∷ true ∷ false ∷ [])
    ∷ (false ∷ false ∷ false ∷ false ∷ false ∷ false ∷ false ∷ true ∷ [])
    ∷ []
bits = refl

-- 16 cells, 4 sensors, a charger, no load, no input or output, 259 cycles; then a load and no charger; then a wrong sum
abbrev none : IOState
none = record { di1 = false; di2 = false; di3 = false; di4 = false; do1 = false; do2 = false; do3 = false; do4 = false }

replies : map decoded_status
    (frame 1 0x94 (16 ∷ 4 ∷ 1 ∷ 0 ∷ 0 ∷ 1 ∷ 3 ∷ 0 ∷ [])
    ∷ frame 1 0x94 (16 ∷ 4 ∷ 0 ∷ 2 ∷ 0 ∷ 1 ∷ 3 ∷ 0 ∷ [])
    ∷ (0xA5 ∷ 0x01 ∷ 0x94 ∷ 0x08 ∷ 0 ∷ 0 ∷ 0 ∷ 0 ∷ 0 ∷ 0 ∷ 0 ∷ 0 ∷ 0 ∷ [])
    ∷ [])
    ≡ Ok (record { cells = 16; temperature_sensors = 4; charger_running = true; load_running = false; states = none; cycles = 259 })
    ∷ Ok (record { cells = 16; temperature_sensors = 4; charger_running = false; load_running = true; states = none; cycles = 259 })
    ∷ Err CheckSumError
    ∷ []
unfolding total sum summed frame sum_of len_check header_check checksum_check frame_check
replies = refl
