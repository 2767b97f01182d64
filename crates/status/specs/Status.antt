-- Document 01, module 3: the 94 reply. Definitions only.
use Rattle.std.specs.Prelude.{ℕ, List, Result}
use Rattle.wire.specs.Bytes.{byte_at, count2, bit}
use Rattle.frame.specs.declared.refusal.Refusal.{Refusal}
use Rattle.frame.specs.Checks.{frame_check}
use Rattle.frame.specs.Reply.{answer, flag}
use Rattle.status.specs.declared.IOState.{IOState}
use Rattle.status.specs.declared.Status.{Status}

-- "`states` gives its eight flags .. `di1` to `do4`": the bits of a byte, the lowest first
abbrev pub io_state : ℕ → IOState
io_state byte = record {
  di1 = bit byte 0;
  di2 = bit byte 1;
  di3 = bit byte 2;
  di4 = bit byte 3;
  do1 = bit byte 4;
  do2 = bit byte 5;
  do3 = bit byte 6;
  do4 = bit byte 7;
}

-- "Two-byte counts are high byte first"
abbrev pub status_of : List ℕ → Status
status_of s = record {
  cells = byte_at s 4;
  temperature_sensors = byte_at s 5;
  charger_running = flag (byte_at s 6);
  load_running = flag (byte_at s 7);
  states = io_state (byte_at s 8);
  cycles = count2 s 9;
}

-- refusals 1, 2, 3 of the frame check, else the record
abbrev pub decoded_status : List ℕ → Result Status Refusal
decoded_status s = answer (frame_check 0x94 s) (status_of s)
