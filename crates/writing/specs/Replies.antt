-- Document 02, K2, "Replies for the bench": the replies of one frame, as a board sends them. Definitions only.
-- Which byte means what is document 01's, module 3; "Bytes without meaning are zero, a true flag is 1."
use Rattle.std.specs.Prelude.{ℕ, ◌+◌, ◌%◌, cond, List, Result, [], ◌∷◌, ltb, leb, ℤ, pos, ◌+ℤ◌, nat_abs, length}
use Rattle.std.proofs.Math.Seq.{paste}
use Rattle.wire.specs.Bytes.{high_byte, low_byte, high_half, low_half, flag_byte, packed}
use Rattle.frame.specs.declared.refusal.Refusal.{Refusal}
use Rattle.frame.specs.declared.refusal.Refusal.TheVariants.{NoRoom, ValueOutOfRange}
use Rattle.frame.specs.Refusals.{Check, sound, refuse}
use Rattle.frame.specs.Frame.{frame}
use Rattle.cell_voltage_range.specs.CellVoltageRange.{CellVoltageRangeCounts}
use Rattle.temperature_range.specs.declared.TemperatureRange.{TemperatureRange}
use Rattle.status.specs.declared.IOState.{IOState}
use Rattle.status.specs.declared.Status.{Status}
use Rattle.list.specs.Listed.{Stores}
use Rattle.writing.specs.declared.SocWire.{SocWire}
use Rattle.writing.specs.declared.MosfetStatusWire.{MosfetStatusWire}

-- "then 9": the lent buffer is shorter than the reply
abbrev pub room_check : ℕ → ℕ → Check
room_check size room = refuse (ltb room size) NoRoom sound

-- a writer's statement for a reply of one frame: the reply is the values that are stored
abbrev pub WritesFrame : List ℕ → List ℕ → Result ℕ Refusal → List ℕ → Type 0
WritesFrame reply out r exit = Stores (room_check 13 (length out)) reply out r exit

-- the 13 bytes of a frame from place `at` on; where the lent places do not reach so far, none of them
abbrev pub put_at : ℕ → List ℕ → List ℕ → List ℕ
put_at at reply out = cond (leb (at + 13) (length out)) (paste out at reply 13) out

-- 90: bytes 6 and 7 are without meaning
abbrev pub soc_data : SocWire → List ℕ
soc_data k =
    high_byte k.total_voltage ∷ low_byte k.total_voltage
    ∷ 0 ∷ 0 ∷ high_byte k.current ∷ low_byte k.current
    ∷ high_byte k.soc_percent ∷ low_byte k.soc_percent
    ∷ []

abbrev pub soc_reply : ℕ → SocWire → List ℕ
soc_reply address k = frame address 0x90 (soc_data k)

-- 91: bytes 10 and 11 are without meaning
abbrev pub cell_voltage_range_data : CellVoltageRangeCounts → List ℕ
cell_voltage_range_data k =
    high_byte k.highest_voltage ∷ low_byte k.highest_voltage
    ∷ k.highest_cell
    ∷ high_byte k.lowest_voltage ∷ low_byte k.lowest_voltage
    ∷ k.lowest_cell
    ∷ 0 ∷ 0
    ∷ []

abbrev pub cell_voltage_range_reply : ℕ → CellVoltageRangeCounts → List ℕ
cell_voltage_range_reply address k = frame address 0x91 (cell_voltage_range_data k)

-- "`TemperatureRange` covers all 256 values of i8": 40 more, modulo 256, with 256 added first so that nothing falls below 0
abbrev pub plus40 : ℤ → ℕ
plus40 degrees = nat_abs (degrees +ℤ pos 296) % 256

-- 92: bytes 8 to 11 are without meaning
abbrev pub temperature_range_data : TemperatureRange → List ℕ
temperature_range_data k =
    plus40 k.highest_temperature ∷ k.highest_sensor
    ∷ plus40 k.lowest_temperature ∷ k.lowest_sensor
    ∷ 0 ∷ 0 ∷ 0 ∷ 0
    ∷ []

abbrev pub temperature_range_reply : ℕ → TemperatureRange → List ℕ
temperature_range_reply address k = frame address 0x92 (temperature_range_data k)

-- 93: "Capacity is a four-byte count"
abbrev pub mosfet_status_data : MosfetStatusWire → List ℕ
mosfet_status_data k =
    k.mode
    ∷ flag_byte k.charging_mosfet ∷ flag_byte k.discharging_mosfet
    ∷ k.bms_cycles
    ∷ high_byte (high_half k.capacity_ah) ∷ low_byte (high_half k.capacity_ah)
    ∷ high_byte (low_half k.capacity_ah) ∷ low_byte (low_half k.capacity_ah)
    ∷ []

abbrev pub mosfet_status_reply : ℕ → MosfetStatusWire → List ℕ
mosfet_status_reply address k = frame address 0x93 (mosfet_status_data k)

-- "new 12, ValueOutOfRange, for a mode over 2 ..; then 9"
abbrev pub mosfet_status_check : MosfetStatusWire → ℕ → Check
mosfet_status_check k room = refuse (ltb 2 k.mode) ValueOutOfRange (room_check 13 room)

abbrev pub WritesMosfetStatus : ℕ → MosfetStatusWire → List ℕ → Result ℕ Refusal → List ℕ → Type 0
WritesMosfetStatus address k out r exit = Stores (mosfet_status_check k (length out)) (mosfet_status_reply address k) out r exit

-- `di1` to `do4`, the lowest bit first
abbrev pub state_byte : IOState → ℕ
state_byte s = packed (s.di1 ∷ s.di2 ∷ s.di3 ∷ s.di4 ∷ s.do1 ∷ s.do2 ∷ s.do3 ∷ s.do4 ∷ [])

-- 94: byte 11 is without meaning
abbrev pub status_data : Status → List ℕ
status_data k =
    k.cells ∷ k.temperature_sensors
    ∷ flag_byte k.charger_running ∷ flag_byte k.load_running
    ∷ state_byte k.states
    ∷ high_byte k.cycles ∷ low_byte k.cycles
    ∷ 0
    ∷ []

abbrev pub status_reply : ℕ → Status → List ℕ
status_reply address k = frame address 0x94 (status_data k)

-- "the three set acknowledgements": no byte of them has a meaning
abbrev pub no_data : List ℕ
no_data = 0 ∷ 0 ∷ 0 ∷ 0 ∷ 0 ∷ 0 ∷ 0 ∷ 0 ∷ []

abbrev pub acknowledgement : ℕ → ℕ → List ℕ
acknowledgement address command = frame address command no_data
