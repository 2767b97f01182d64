-- The modes and the refusals of a 93 reply, over the definitions that the contracts cite. Assumes nothing.
use mathlib.Core.Path.{◌≡◌, refl}
use Prim.Native.Nat.{ℕ}
use Rattle.std.proofs.Common.{Result, Ok, Err}
use mathlib.Core.Bool.{true, false}
use mathlib.Core.List.{List, [], ◌∷◌, ◌++◌, map}
use lib.ListN.{take}
use lib.Ieee.{binary32, of_bits, of_int, div}
use Rattle.frame.specs.declared.refusal.Refusal.{Refusal}
use Rattle.frame.specs.declared.refusal.Refusal.TheVariants.{UnknownMode}
use Rattle.frame.specs.Refusals.{answer_number}
use Rattle.frame.specs.Frame.{frame}
use Rattle.frame.specs.Checks.{frame_check}
use Rattle.mosfet_status.specs.declared.MosfetMode.{MosfetMode}
use Rattle.mosfet_status.specs.declared.MosfetMode.TheVariants.{Stationary, Charging, Discharging}
use Rattle.mosfet_status.specs.MosfetStatus.{MosfetStatusCounts, checked_mode, mode_number, mosfet_check, decoded_mosfet_status_counts, decoded_mosfet_status}

-- a reply to a command with this mode: charging on, discharging off, 7 cycles, 100,000
reply : ℕ → ℕ → List ℕ
reply command mode = frame 0x01 command (mode ∷ 1 ∷ 0 ∷ 7 ∷ 0x00 ∷ 0x01 ∷ 0x86 ∷ 0xA0 ∷ [])

counts : MosfetMode → Result MosfetStatusCounts Refusal
counts m =
    Ok (record { mode = m; charging_mosfet = true; discharging_mosfet = false; bms_cycles = 7; capacity_ah = 100_000 })

-- the modes, and the first byte that is none
modes : map (λ mode. decoded_mosfet_status_counts (reply 0x93 mode)) (0 ∷ 1 ∷ 2 ∷ 3 ∷ [])
    ≡ counts Stationary ∷ counts Charging ∷ counts Discharging ∷ Err UnknownMode ∷ []
unfolding reply counts frame mosfet_check frame_check
modes = refl

-- the order of the refusals: an unknown mode, then also another sum, then also another command, then also a byte less
orders : map (λ s. answer_number (mosfet_check s))
    (reply 0x93 2 ∷ reply 0x93 3 ∷ (reply 0x93 3 ++ 0 ∷ []) ∷ (reply 0x92 3 ++ 0 ∷ []) ∷ take 12 (reply 0x92 3) ∷ [])
    ≡ 0 ∷ 5 ∷ 3 ∷ 2 ∷ 1 ∷ []
unfolding reply frame mosfet_check frame_check
orders = refl

-- "the mode 0 to 2"; 5 "over 2"
modes_of_bytes : map checked_mode (0 ∷ 1 ∷ 2 ∷ 3 ∷ 255 ∷ []) ≡ Ok Stationary ∷ Ok Charging ∷ Ok Discharging ∷ Err UnknownMode ∷ Err UnknownMode ∷ []
modes_of_bytes = refl

mode_numbers : map mode_number (Stationary ∷ Charging ∷ Discharging ∷ []) ≡ 0 ∷ 1 ∷ 2 ∷ []
mode_numbers = refl

-- 100,000 thousandths are 100.0 as the Rust's f32
record_93 : decoded_mosfet_status (reply 0x93 1)
    ≡ Ok (record { mode = Charging; charging_mosfet = true; discharging_mosfet = false; bms_cycles = 7; capacity_ah = of_bits binary32 0x42C8_0000 })
unfolding reply frame mosfet_check frame_check of_int div of_bits
record_93 = refl
