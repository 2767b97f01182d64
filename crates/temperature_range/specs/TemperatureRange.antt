-- Document 01, module 3: the 92 reply. Definitions only.
use Rattle.std.specs.Prelude.{ℕ, ◌+◌, ◌-◌, ◌%◌, cond, List, ℤ, pos, ◌-ℤ◌, nat_lt, Result}
use Rattle.wire.specs.Bytes.{byte_at}
use Rattle.frame.specs.declared.refusal.Refusal.{Refusal}
use Rattle.frame.specs.Checks.{frame_check}
use Rattle.frame.specs.Reply.{answer}
use Rattle.temperature_range.specs.declared.TemperatureRange.{TemperatureRange}

-- "byte − 40 modulo 256", with 256 added first so that nothing falls below 0
abbrev pub less40 : ℕ → ℕ
less40 byte = (byte + 256 - 40) % 256

-- "read as i8": below 128 the byte itself, else the byte less 256
abbrev pub as_i8 : ℕ → ℤ
as_i8 byte = cond (nat_lt byte 128) (pos byte) (pos byte -ℤ pos 256)

-- "`TemperatureRange` wraps: byte − 40 modulo 256, read as i8"
abbrev pub temperature_of : ℕ → ℤ
temperature_of byte = as_i8 (less40 byte)

abbrev pub temperature_range : List ℕ → TemperatureRange
temperature_range s = record {
  highest_temperature = temperature_of (byte_at s 4);
  highest_sensor = byte_at s 5;
  lowest_temperature = temperature_of (byte_at s 6);
  lowest_sensor = byte_at s 7;
}

-- refusals 1, 2, 3 of the frame check, else the record
abbrev pub decoded_temperature_range : List ℕ → Result TemperatureRange Refusal
decoded_temperature_range s = answer (frame_check 0x92 s) (temperature_range s)
