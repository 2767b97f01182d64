-- Document 01, module 3: the 91 reply. Definitions only.
use Rattle.std.specs.Prelude.{ℕ, List, pos, Float, Result, Ok, Err}
use Rattle.wire.specs.Bytes.{byte_at, count2}
use Rattle.frame.specs.declared.refusal.Refusal.{Refusal}
use Rattle.frame.specs.Checks.{frame_check}
use Rattle.units.specs.Floats.{thousandths}
use Rattle.frame.specs.Reply.{answer}
use Rattle.cell_voltage_range.specs.declared.CellVoltageRange.{CellVoltageRange}

-- antt has no name for an alias
abbrev pub CellVoltageRangeCounts : Type 0
CellVoltageRangeCounts = CellVoltageRange ℕ

abbrev pub CellVoltageRangeRecord : Type 0
CellVoltageRangeRecord = CellVoltageRange Float

-- "Two-byte counts are high byte first"; a cell's number is one byte
abbrev pub cell_voltage_range_counts : List ℕ → CellVoltageRangeCounts
cell_voltage_range_counts s = record {
  highest_voltage = count2 s 4;
  highest_cell = byte_at s 6;
  lowest_voltage = count2 s 7;
  lowest_cell = byte_at s 9;
}

-- "thousandths by 1000.0"
abbrev pub cell_voltage_range_of : CellVoltageRangeCounts → CellVoltageRangeRecord
cell_voltage_range_of k = record {
  highest_voltage = thousandths (pos k.highest_voltage);
  highest_cell = k.highest_cell;
  lowest_voltage = thousandths (pos k.lowest_voltage);
  lowest_cell = k.lowest_cell;
}

-- refusals 1, 2, 3 of the frame check, else the counts
abbrev pub decoded_cell_voltage_range_counts : List ℕ → Result CellVoltageRangeCounts Refusal
decoded_cell_voltage_range_counts s = answer (frame_check 0x91 s) (cell_voltage_range_counts s)

-- the record of the counts; a refusal stays
abbrev pub cell_voltage_range_answer : Result CellVoltageRangeCounts Refusal → Result CellVoltageRangeRecord Refusal
cell_voltage_range_answer (Ok k) = Ok (cell_voltage_range_of k)
cell_voltage_range_answer (Err r) = Err r

abbrev pub decoded_cell_voltage_range : List ℕ → Result CellVoltageRangeRecord Refusal
decoded_cell_voltage_range s = cell_voltage_range_answer (decoded_cell_voltage_range_counts s)
