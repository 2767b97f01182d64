-- Replies of one frame are read back. Assumes nothing.
use mathlib.Core.Path.{◌≡◌, refl, ap}
use mathlib.Core.Bool.{Bool, true, false}
use mathlib.Core.List.{List, [], ◌∷◌}
use Prim.Native.Nat.{ℕ, suc, ◌-◌, ◌+◌, ◌%◌, ◌≤◌}
use native.Mathlib.Omega.{arith}
use lib.IntN.{ℤ, pos, negsuc}
use borrow.Author.Tests.{le-ltb, lt-ltb}
use Rattle.std.specs.Prelude.{Ok}
use Rattle.wire.specs.Bytes.{four_bytes, high_half, low_half, flag_byte}
use Rattle.wire.proofs.Packing.{bit_back}
use Rattle.frame.specs.Refusals.{sound}
use Rattle.frame.specs.Frame.{summed, frame}
use Rattle.frame.specs.Checks.{frame_check}
use Rattle.frame.specs.Reply.{flag}
use Rattle.frame.proofs.Sound.{frame_sound}
use Rattle.soc.specs.Soc.{soc_counts, soc_of, decoded_soc_counts, soc_answer, decoded_soc}
use Rattle.cell_voltage_range.specs.CellVoltageRange.{CellVoltageRangeCounts, cell_voltage_range_counts, cell_voltage_range_of, decoded_cell_voltage_range_counts, cell_voltage_range_answer, decoded_cell_voltage_range}
use Rattle.temperature_range.specs.declared.TemperatureRange.{TemperatureRange}
use Rattle.temperature_range.specs.TemperatureRange.{less40, temperature_of, temperature_range, decoded_temperature_range}
use Rattle.mosfet_status.specs.MosfetStatus.{mosfet_check, mosfet_status_counts, mosfet_status_of, decoded_mosfet_status_counts, mosfet_status_answer, decoded_mosfet_status}
use Rattle.status.specs.declared.IOState.{IOState}
use Rattle.status.specs.declared.Status.{Status}
use Rattle.status.specs.Status.{io_state, status_of, decoded_status}
use Rattle.writing.specs.declared.SocWire.{SocWire}
use Rattle.writing.specs.declared.MosfetStatusWire.{MosfetStatusWire}
use Rattle.writing.specs.Replies.{soc_reply, cell_voltage_range_reply, plus40, temperature_range_reply, mosfet_status_reply, state_byte, status_reply, acknowledgement}
use Rattle.writing_lists.proofs.Cells.{rejoined}
use Rattle.readback.specs.Meant.{soc_meant, IsI8, mosfet_status_meant}

-- the halves of a four-byte count make it again
four_back : (count : ℕ) → four_bytes (high_half count) (low_half count) ≡ count
four_back count = omega arith

flag_back : (b : Bool) → flag (flag_byte b) ≡ b
flag_back true = refl
flag_back false = refl

module _ (address : ℕ) where
  -- ---- 90

  soc-fields : (k : SocWire) → soc_counts (soc_reply address k) ≡ soc_meant k
  unfolding frame summed
  soc-fields k = rw (rejoined k.total_voltage, rejoined k.current, rejoined k.soc_percent)

  pub soc-counts_back : (k : SocWire) → decoded_soc_counts (soc_reply address k) ≡ Ok (soc_meant k)
  soc-counts_back k = rw (frame_sound address 0x90 _ refl) (ap Ok (soc-fields k))

  pub soc_back : (k : SocWire) → decoded_soc (soc_reply address k) ≡ Ok (soc_of (soc_meant k))
  soc_back k = ap soc_answer (soc-counts_back k)

  -- ---- 91

  range-fields : (k : CellVoltageRangeCounts) → cell_voltage_range_counts (cell_voltage_range_reply address k) ≡ k
  unfolding frame summed
  range-fields k = rw (rejoined k.highest_voltage, rejoined k.lowest_voltage)

  pub range-counts_back : (k : CellVoltageRangeCounts) → decoded_cell_voltage_range_counts (cell_voltage_range_reply address k) ≡ Ok k
  range-counts_back k = rw (frame_sound address 0x91 _ refl) (ap Ok (range-fields k))

  pub range_back : (k : CellVoltageRangeCounts) → decoded_cell_voltage_range (cell_voltage_range_reply address k) ≡ Ok (cell_voltage_range_of k)
  range_back k = ap cell_voltage_range_answer (range-counts_back k)

  -- ---- 92

  degrees_back : (z : ℤ) → IsI8 z → temperature_of (plus40 z) ≡ z
  degrees_back (pos n) h =
      let b : less40 ((n + 296) % 256) ≡ n = omega arith in
      rw (b, lt-ltb n 128 (omega arith))
  degrees_back (negsuc n) h =
      let b : less40 ((296 - suc n) % 256) ≡ 255 - n = omega arith in
      let d : 256 - suc (255 - n) ≡ n = omega arith in
      rw (le-ltb 296 (suc n) (omega arith), b, le-ltb (255 - n) 128 (omega arith), lt-ltb (255 - n) 256 (omega arith), d)

  degrees-fields : (k : TemperatureRange) → IsI8 k.highest_temperature → IsI8 k.lowest_temperature → temperature_range (temperature_range_reply address k) ≡ k
  unfolding frame summed
  degrees-fields k h l = rw (degrees_back k.highest_temperature h, degrees_back k.lowest_temperature l)

  pub temperatures_back : (k : TemperatureRange) → IsI8 k.highest_temperature → IsI8 k.lowest_temperature
      → decoded_temperature_range (temperature_range_reply address k) ≡ Ok k
  temperatures_back k h l = rw (frame_sound address 0x92 _ refl) (ap Ok (degrees-fields k h l))

  -- ---- 93

  mosfet_sound : (k : MosfetStatusWire) → k.mode ≤ 2 → mosfet_check (mosfet_status_reply address k) ≡ sound
  unfolding mosfet_check frame summed
  mosfet_sound k h = rw (frame_sound address 0x93 _ refl, le-ltb 2 k.mode h)

  mosfet-fields : (k : MosfetStatusWire) → mosfet_status_counts (mosfet_status_reply address k) ≡ mosfet_status_meant k
  unfolding frame summed
  mosfet-fields k =
      rw (flag_back k.charging_mosfet, flag_back k.discharging_mosfet, rejoined (high_half k.capacity_ah), rejoined (low_half k.capacity_ah), four_back k.capacity_ah)

  pub mosfet-counts_back : (k : MosfetStatusWire) → k.mode ≤ 2 → decoded_mosfet_status_counts (mosfet_status_reply address k) ≡ Ok (mosfet_status_meant k)
  mosfet-counts_back k h = rw (mosfet_sound k h) (ap Ok (mosfet-fields k))

  pub mosfet_back : (k : MosfetStatusWire) → k.mode ≤ 2 → decoded_mosfet_status (mosfet_status_reply address k) ≡ Ok (mosfet_status_of (mosfet_status_meant k))
  mosfet_back k h = ap mosfet_status_answer (mosfet-counts_back k h)

  -- ---- 94

  states_back : (s : IOState) → io_state (state_byte s) ≡ s
  states_back s =
      let bits : List Bool = s.di1 ∷ s.di2 ∷ s.di3 ∷ s.di4 ∷ s.do1 ∷ s.do2 ∷ s.do3 ∷ s.do4 ∷ [] in
      λ i. record {
        di1 = bit_back bits 0 i;
        di2 = bit_back bits 1 i;
        di3 = bit_back bits 2 i;
        di4 = bit_back bits 3 i;
        do1 = bit_back bits 4 i;
        do2 = bit_back bits 5 i;
        do3 = bit_back bits 6 i;
        do4 = bit_back bits 7 i;
      }

  status-fields : (k : Status) → status_of (status_reply address k) ≡ k
  unfolding frame summed
  status-fields k = rw (flag_back k.charger_running, flag_back k.load_running, states_back k.states, rejoined k.cycles)

  pub status_back : (k : Status) → decoded_status (status_reply address k) ≡ Ok k
  status_back k = rw (frame_sound address 0x94 _ refl) (ap Ok (status-fields k))

  -- ---- acknowledgements

  pub acknowledged : (command : ℕ) → frame_check command (acknowledgement address command) ≡ sound
  acknowledged command = frame_sound address command _ refl
