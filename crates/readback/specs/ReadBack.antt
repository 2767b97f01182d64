-- Document 02, K2: "Decoding what was written gives back the record, floats as in document 01, for every accepted input." Definitions only.
use Rattle.std.specs.Prelude.{ℕ, ◌≤◌, ◌≡◌, Bool, true, List, ℤ, Float, length, Result, Ok}
use Rattle.frame.specs.Refusals.{sound}
use Rattle.frame.specs.Checks.{frame_check}
use Rattle.soc.specs.Soc.{soc_of, decoded_soc_counts, decoded_soc}
use Rattle.cell_voltage_range.specs.CellVoltageRange.{CellVoltageRangeCounts, cell_voltage_range_of, decoded_cell_voltage_range_counts, decoded_cell_voltage_range}
use Rattle.temperature_range.specs.declared.TemperatureRange.{TemperatureRange}
use Rattle.temperature_range.specs.TemperatureRange.{decoded_temperature_range}
use Rattle.mosfet_status.specs.MosfetStatus.{mosfet_status_of, decoded_mosfet_status_counts, decoded_mosfet_status}
use Rattle.status.specs.declared.Status.{Status}
use Rattle.status.specs.Status.{decoded_status}
use Rattle.frame.specs.declared.refusal.Refusal.{Refusal}
use Rattle.list.specs.Listed.{Stores}
use Rattle.list.specs.Cells.{DecodesMillivolts, DecodesVoltages, DecodesTemperatures}
use Rattle.flags.specs.Balance.{DecodesBalance}
use Rattle.flags.specs.Faults.{DecodesFaults}
use Rattle.writing.specs.declared.SocWire.{SocWire}
use Rattle.writing.specs.declared.MosfetStatusWire.{MosfetStatusWire}
use Rattle.writing.specs.Replies.{soc_reply, cell_voltage_range_reply, temperature_range_reply, mosfet_status_reply, status_reply, acknowledgement}
use Rattle.writing_flags.specs.Replies.{balance_reply, faults_reply}
use Rattle.writing_flags.specs.Meant.{set_faults}
use Rattle.writing_lists.specs.Replies.{all_fit, cells_reply, sensors_reply}
use Rattle.readback.specs.Meant.{soc_meant, IsI8, mosfet_status_meant, volts_meant}

-- each for every address; a list's decoder is told how many values there are, and whatever it then answers and leaves, it has stored the list
pub record ReadBack : Type 0 where
  -- 90, whole counts and record
  pub soc-counts : (address : ℕ) (k : SocWire) → decoded_soc_counts (soc_reply address k) ≡ Ok (soc_meant k)
  pub soc : (address : ℕ) (k : SocWire) → decoded_soc (soc_reply address k) ≡ Ok (soc_of (soc_meant k))
  -- 91, whole counts and record
  pub cell-voltage-range-counts : (address : ℕ) (k : CellVoltageRangeCounts)
      → decoded_cell_voltage_range_counts (cell_voltage_range_reply address k) ≡ Ok k
  pub cell-voltage-range : (address : ℕ) (k : CellVoltageRangeCounts)
      → decoded_cell_voltage_range (cell_voltage_range_reply address k) ≡ Ok (cell_voltage_range_of k)
  -- 92: "`TemperatureRange` covers all 256 values of i8"
  pub temperature-range : (address : ℕ) (k : TemperatureRange) → IsI8 k.highest_temperature → IsI8 k.lowest_temperature
      → decoded_temperature_range (temperature_range_reply address k) ≡ Ok k
  -- 93, whole counts and record: "12 .. for a mode over 2"
  pub mosfet-status-counts : (address : ℕ) (k : MosfetStatusWire) → k.mode ≤ 2
      → decoded_mosfet_status_counts (mosfet_status_reply address k) ≡ Ok (mosfet_status_meant k)
  pub mosfet-status : (address : ℕ) (k : MosfetStatusWire) → k.mode ≤ 2
      → decoded_mosfet_status (mosfet_status_reply address k) ≡ Ok (mosfet_status_of (mosfet_status_meant k))
  -- 94
  pub status : (address : ℕ) (k : Status) → decoded_status (status_reply address k) ≡ Ok k
  -- 95, millivolts and volts, of every length
  pub cells : (address : ℕ) (cells out : List ℕ) → length cells ≤ length out → (r : Result ℕ Refusal) (exit : List ℕ)
      → DecodesMillivolts (cells_reply address cells) (length cells) out r exit → Stores sound cells out r exit
  pub volts : (address : ℕ) (cells : List ℕ) (out : List Float) → length cells ≤ length out → (r : Result ℕ Refusal) (exit : List Float)
      → DecodesVoltages (cells_reply address cells) (length cells) out r exit → Stores sound (volts_meant cells) out r exit
  -- 96, of every length: "12 .. for .. a temperature outside −40..215"
  pub sensors : (address : ℕ) (degrees out : List ℤ) → all_fit degrees ≡ true → length degrees ≤ length out → (r : Result ℕ Refusal) (exit : List ℤ)
      → DecodesTemperatures (sensors_reply address degrees) (length degrees) out r exit → Stores sound degrees out r exit
  -- 97: "12 .. for .. a balance list not of 1 to 48 flags"
  pub balance : (address : ℕ) (flags out : List Bool) → 1 ≤ length flags → length flags ≤ 48 → length flags ≤ length out → (r : Result ℕ Refusal) (exit : List Bool)
      → DecodesBalance (balance_reply address flags) (length flags) out r exit → Stores sound flags out r exit
  -- 98: "Faults are 48 flags by position"; those that are set are listed
  pub faults : (address : ℕ) (flags : List Bool) (out : List ℕ) → 48 ≤ length out → (r : Result ℕ Refusal) (exit : List ℕ)
      → DecodesFaults (faults_reply address flags) out r exit → Stores sound (set_faults flags) out r exit
  -- "the three set acknowledgements": D9, DA and 21 pass the one check that is made of them, as any command would
  pub acknowledged : (address command : ℕ) → frame_check command (acknowledgement address command) ≡ sound
