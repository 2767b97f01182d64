-- What an auditor reads off the two promises (`read_back` and `met` prove them): frames byte by byte with what they are decoded to, what a decoder
-- of lists then answers and leaves, and that the reader meets every reply by its name. It uses every condition, so that a weaker promise fails here.
use Prim.Native.Nat.{ℕ, ◌*◌, ◌≤◌}
use mathlib.Core.Path.{◌≡◌, refl, sym}
use mathlib.Core.Bool.{Bool, true, false, true≢false}
use mathlib.Core.List.{List, [], ◌∷◌, ◌++◌, map}
use native.Mathlib.Omega.{arith}
use lib.IntN.{ℤ, pos, negsuc}
use lib.Ieee.{Float}
use lib.ListN.{length, drop}
use Rattle.std.specs.Prelude.{Result, Ok}
use Rattle.wire.specs.Lists.{firsts}
use Rattle.frame.specs.Refusals.{sound}
use Rattle.frame.specs.Frame.{total, sum, summed, frame}
use Rattle.frame.specs.Checks.{frame_check}
use Rattle.units.specs.Floats.{tenths, thousandths}
use Rattle.soc.specs.Soc.{decoded_soc_counts, decoded_soc}
use Rattle.cell_voltage_range.specs.CellVoltageRange.{CellVoltageRangeCounts, decoded_cell_voltage_range_counts, decoded_cell_voltage_range}
use Rattle.temperature_range.specs.declared.TemperatureRange.{TemperatureRange}
use Rattle.temperature_range.specs.TemperatureRange.{decoded_temperature_range}
use Rattle.mosfet_status.specs.declared.MosfetMode.TheVariants.{Discharging}
use Rattle.mosfet_status.specs.MosfetStatus.{mosfet_status_of, decoded_mosfet_status_counts, decoded_mosfet_status}
use Rattle.status.specs.declared.Status.{Status}
use Rattle.status.specs.Status.{decoded_status}
use Rattle.frame.specs.declared.refusal.Refusal.{Refusal}
use Rattle.list.specs.Numbered.{frames_for}
use Rattle.list.specs.Cells.{DecodesMillivolts, DecodesVoltages, DecodesTemperatures}
use Rattle.flags.specs.Balance.{DecodesBalance}
use Rattle.flags.specs.Faults.{DecodesFaults}
use Rattle.rules.specs.Reader.{each, Answer, fresh, completeness, joined}
use Rattle.rules.specs.Demand.{answers}
use Rattle.writing.specs.declared.SocWire.{SocWire}
use Rattle.writing.specs.declared.MosfetStatusWire.{MosfetStatusWire}
use Rattle.writing.specs.Replies.{soc_reply, cell_voltage_range_reply, temperature_range_reply, mosfet_status_reply, status_reply, acknowledgement}
use Rattle.writing_flags.specs.Replies.{balance_reply, faults_reply}
use Rattle.writing_flags.specs.Meant.{set_faults}
use Rattle.writing_lists.specs.Numbered.{numbered_frame, numbered_reply}
use Rattle.writing_lists.specs.Replies.{cell_bytes, degree_byte, all_fit, cells_reply, sensors_reply}
use Rattle.readback.specs.Meant.{mosfet_status_meant}
use Rattle.readback.specs.ReadBack.{ReadBack}
use Rattle.readback.specs.Met.{Heard, Met, Meets, ReaderMeets}

-- ---- frames, byte by byte, and what they are decoded to

-- document 01's example
abbrev frame90 : List ℕ
frame90 = 0xA5 ∷ 0x01 ∷ 0x90 ∷ 0x08 ∷ 0x02 ∷ 0x0B ∷ 0x00 ∷ 0x00 ∷ 0x74 ∷ 0xB7 ∷ 0x03 ∷ 0x6A ∷ 0xE3 ∷ []

abbrev soc : SocWire
soc = record { total_voltage = 523; current = 29879; soc_percent = 874 }

read-soc : ReadBack
    → (decoded_soc_counts frame90 ≡ Ok (record { total_voltage = 523; current = negsuc 120; soc_percent = 874 }))
    × (decoded_soc frame90 ≡ Ok (record { total_voltage = tenths (pos 523); current = tenths (negsuc 120); soc_percent = tenths (pos 874) }))
unfolding frame summed sum total
read-soc back = (back.soc-counts 1 soc, back.soc 1 soc)

abbrev frame91 : List ℕ
frame91 = 0xA5 ∷ 0x02 ∷ 0x91 ∷ 0x08 ∷ 0x0C ∷ 0xEE ∷ 0x04 ∷ 0x0C ∷ 0xDA ∷ 0x09 ∷ 0x00 ∷ 0x00 ∷ 0x2D ∷ []

abbrev range : CellVoltageRangeCounts
range = record { highest_voltage = 3310; highest_cell = 4; lowest_voltage = 3290; lowest_cell = 9 }

read-range : ReadBack
    → (decoded_cell_voltage_range_counts frame91 ≡ Ok range)
    × (decoded_cell_voltage_range frame91
    ≡ Ok (record { highest_voltage = thousandths (pos 3310); highest_cell = 4; lowest_voltage = thousandths (pos 3290); lowest_cell = 9 }))
unfolding frame summed sum total
read-range back = (back.cell-voltage-range-counts 2 range, back.cell-voltage-range 2 range)

-- the ends of an i8
abbrev frame92 : List ℕ
frame92 = 0xA5 ∷ 0x40 ∷ 0x92 ∷ 0x08 ∷ 0xA8 ∷ 0x03 ∷ 0xA7 ∷ 0x05 ∷ 0x00 ∷ 0x00 ∷ 0x00 ∷ 0x00 ∷ 0xD6 ∷ []

abbrev temperatures : TemperatureRange
temperatures = record { highest_temperature = negsuc 127; highest_sensor = 3; lowest_temperature = pos 127; lowest_sensor = 5 }

read_temperatures : ReadBack → decoded_temperature_range frame92 ≡ Ok temperatures
unfolding frame summed sum total
read_temperatures back = back.temperature-range 0x40 temperatures (omega arith) (omega arith)

abbrev frame93 : List ℕ
frame93 = 0xA5 ∷ 0x01 ∷ 0x93 ∷ 0x08 ∷ 0x02 ∷ 0x01 ∷ 0x00 ∷ 0x07 ∷ 0x00 ∷ 0x01 ∷ 0x11 ∷ 0x70 ∷ 0xCD ∷ []

abbrev mosfets : MosfetStatusWire
mosfets = record { mode = 2; charging_mosfet = true; discharging_mosfet = false; bms_cycles = 7; capacity_ah = 70000 }

read_mosfets : ReadBack
    → (decoded_mosfet_status_counts frame93 ≡ Ok (record { mode = Discharging; charging_mosfet = true; discharging_mosfet = false; bms_cycles = 7; capacity_ah = 70000 }))
    × (decoded_mosfet_status frame93
    ≡ Ok (record { mode = Discharging; charging_mosfet = true; discharging_mosfet = false; bms_cycles = 7; capacity_ah = thousandths (pos 70000) }))
unfolding frame summed sum total
read_mosfets back = (back.mosfet-status-counts 1 mosfets (omega arith), back.mosfet-status 1 mosfets (omega arith))

-- a mode up to 2, and no other
read_modes : ReadBack → (address : ℕ) (k : MosfetStatusWire) → k.mode ≤ 2
    → (decoded_mosfet_status_counts (mosfet_status_reply address k) ≡ Ok (mosfet_status_meant k))
    × (decoded_mosfet_status (mosfet_status_reply address k) ≡ Ok (mosfet_status_of (mosfet_status_meant k)))
read_modes back address k h = (back.mosfet-status-counts address k h, back.mosfet-status address k h)

abbrev frame94 : List ℕ
frame94 = 0xA5 ∷ 0x01 ∷ 0x94 ∷ 0x08 ∷ 0x10 ∷ 0x02 ∷ 0x01 ∷ 0x00 ∷ 0x92 ∷ 0x01 ∷ 0x2C ∷ 0x00 ∷ 0x14 ∷ []

abbrev status : Status
status =
    record {
      cells = 16;
      temperature_sensors = 2;
      charger_running = true;
      load_running = false;
      states = record { di1 = false; di2 = true; di3 = false; di4 = false; do1 = true; do2 = false; do3 = false; do4 = true };
      cycles = 300;
    }

read-status : ReadBack → decoded_status frame94 ≡ Ok status
unfolding frame summed sum total
read-status back = back.status 1 status

-- D9, DA, 21
read-acknowledged : ReadBack
    → (frame_check 0xD9 (0xA5 ∷ 0x01 ∷ 0xD9 ∷ 0x08 ∷ 0x00 ∷ 0x00 ∷ 0x00 ∷ 0x00 ∷ 0x00 ∷ 0x00 ∷ 0x00 ∷ 0x00 ∷ 0x87 ∷ []) ≡ sound)
    × (frame_check 0xDA (0xA5 ∷ 0x01 ∷ 0xDA ∷ 0x08 ∷ 0x00 ∷ 0x00 ∷ 0x00 ∷ 0x00 ∷ 0x00 ∷ 0x00 ∷ 0x00 ∷ 0x00 ∷ 0x88 ∷ []) ≡ sound)
    × (frame_check 0x21 (0xA5 ∷ 0x01 ∷ 0x21 ∷ 0x08 ∷ 0x00 ∷ 0x00 ∷ 0x00 ∷ 0x00 ∷ 0x00 ∷ 0x00 ∷ 0x00 ∷ 0x00 ∷ 0xCF ∷ []) ≡ sound)
unfolding frame summed sum total
read-acknowledged back = (back.acknowledged 1 0xD9, back.acknowledged 1 0xDA, back.acknowledged 1 0x21)

-- ---- lists: the decoder answers how many values there are, and leaves them before what stood behind them

abbrev reply95 : List ℕ
reply95 =
    0xA5 ∷ 0x01 ∷ 0x95 ∷ 0x08 ∷ 0x01 ∷ 0x0C ∷ 0xE5 ∷ 0x0C ∷ 0xE6 ∷ 0x0C ∷ 0xE7 ∷ 0x00 ∷ 0x1A
    ∷ 0xA5 ∷ 0x01 ∷ 0x95 ∷ 0x08 ∷ 0x02 ∷ 0x0C ∷ 0xE8 ∷ 0x00 ∷ 0x00 ∷ 0x00 ∷ 0x00 ∷ 0x00 ∷ 0x39 ∷ []

read-four-cells : ReadBack → (r : Result ℕ Refusal) (exit : List ℕ) → DecodesMillivolts reply95 4 (1 ∷ 2 ∷ 3 ∷ 4 ∷ 5 ∷ []) r exit
    → (r ≡ Ok 4) × (exit ≡ 3301 ∷ 3302 ∷ 3303 ∷ 3304 ∷ 5 ∷ [])
unfolding numbered_reply numbered_frame joined frame summed sum total
read-four-cells back r exit d =
    let e = back.cells 1 (3301 ∷ 3302 ∷ 3303 ∷ 3304 ∷ []) (1 ∷ 2 ∷ 3 ∷ 4 ∷ 5 ∷ []) (omega arith) r exit d in
    (e.answer, e.left)

read-cells : ReadBack → (address : ℕ) (cells out : List ℕ) → length cells ≤ length out → (r : Result ℕ Refusal) (exit : List ℕ)
    → DecodesMillivolts (cells_reply address cells) (length cells) out r exit → (r ≡ Ok (length cells)) × (exit ≡ cells ++ drop (length cells) out)
read-cells back address cells out h r exit d = let e = back.cells address cells out h r exit d in (e.answer, e.left)

read-volts : ReadBack → (address : ℕ) (a b : ℕ) (x y : Float) (out : List Float) → length (a ∷ b ∷ []) ≤ length (x ∷ y ∷ out) → (r : Result ℕ Refusal) (exit : List Float)
    → DecodesVoltages (cells_reply address (a ∷ b ∷ [])) 2 (x ∷ y ∷ out) r exit → (r ≡ Ok 2) × (exit ≡ thousandths (pos a) ∷ thousandths (pos b) ∷ out)
read-volts back address a b x y out h r exit d = let e = back.volts address (a ∷ b ∷ []) (x ∷ y ∷ out) h r exit d in (e.answer, e.left)

read-sensors : ReadBack → (address : ℕ) (degrees out : List ℤ) → all_fit degrees ≡ true → length degrees ≤ length out → (r : Result ℕ Refusal) (exit : List ℤ)
    → DecodesTemperatures (sensors_reply address degrees) (length degrees) out r exit → (r ≡ Ok (length degrees)) × (exit ≡ degrees ++ drop (length degrees) out)
read-sensors back address degrees out f h r exit d = let e = back.sensors address degrees out f h r exit d in (e.answer, e.left)

read-balance : ReadBack → (address : ℕ) (flags out : List Bool) → 1 ≤ length flags → length flags ≤ 48 → length flags ≤ length out → (r : Result ℕ Refusal) (exit : List Bool)
    → DecodesBalance (balance_reply address flags) (length flags) out r exit → (r ≡ Ok (length flags)) × (exit ≡ flags ++ drop (length flags) out)
read-balance back address flags out a b h r exit d = let e = back.balance address flags out a b h r exit d in (e.answer, e.left)

read-faults : ReadBack → (address : ℕ) (flags : List Bool) (out : List ℕ) → 48 ≤ length out → (r : Result ℕ Refusal) (exit : List ℕ)
    → DecodesFaults (faults_reply address flags) out r exit → (r ≡ Ok (length (set_faults flags))) × (exit ≡ set_faults flags ++ drop (length (set_faults flags)) out)
read-faults back address flags out h r exit d = let e = back.faults address flags out h r exit d in (e.answer, e.left)

-- ---- the reader

-- "complete with exactly its frames, nothing held, discarded or cleared, status 0"
read_met : (frames : List (List ℕ)) (a : Answer) → Met frames a
    → (completeness a.reader ≡ true) × (a.reader.collected ≡ frames) × (a.reader.taken ≡ 13 * length frames)
    × (a.reader.held ≡ []) × (a.reader.discarded ≡ each (λ y. 0)) × (a.reader.cleared ≡ 0) × (a.status ≡ 0)
read_met frames a m = (m.complete, m.collected, m.taken, m.held, m.discarded, m.cleared, m.status)

-- document 01's example in three pieces, with two bytes behind it, into a strict reader: its address is 01
read_cut : ReaderMeets
    → Met (frame90 ∷ [])
    (answers (fresh record { command = 0x90; wanted = 1; strict = true }) (0xA5 ∷ [])
    ((0x01 ∷ 0x90 ∷ 0x08 ∷ 0x02 ∷ 0x0B ∷ 0x00 ∷ []) ∷ (0x00 ∷ 0x74 ∷ 0xB7 ∷ 0x03 ∷ 0x6A ∷ 0xE3 ∷ 7 ∷ 8 ∷ []) ∷ []))
unfolding joined frame summed sum total
read_cut meets =
    meets.one true 1 0x90 (0x02 ∷ 0x0B ∷ 0x00 ∷ 0x00 ∷ 0x74 ∷ 0xB7 ∷ 0x03 ∷ 0x6A ∷ []) (λ s e. absurd (omega (arith, e))) refl (7 ∷ 8 ∷ [])
    (0xA5 ∷ []) ((0x01 ∷ 0x90 ∷ 0x08 ∷ 0x02 ∷ 0x0B ∷ 0x00 ∷ []) ∷ (0x00 ∷ 0x74 ∷ 0xB7 ∷ 0x03 ∷ 0x6A ∷ 0xE3 ∷ 7 ∷ 8 ∷ []) ∷ []) refl

-- a reply of no frames: a reader that wants none has none, and takes nothing of what comes
read_empty : ReaderMeets → Met [] (answers (fresh record { command = 0x95; wanted = 0; strict = false }) (0xA5 ∷ 1 ∷ []) [])
unfolding numbered_reply joined
read_empty meets = meets.numbered false 1 0x95 6 [] 0 (λ s e. absurd (omega (arith, e))) (omega arith) (0xA5 ∷ 1 ∷ []) (0xA5 ∷ 1 ∷ []) [] refl

-- 0 to 85 numbered frames, and no more
read-numbered : ReaderMeets → (strict : Bool) (address command many : ℕ) (bytes : List ℕ) (n : ℕ) → Heard strict address → n ≤ 85
    → Meets strict command (firsts (numbered_frame address command many bytes) n) (numbered_reply address command many bytes n)
read-numbered meets strict address command many bytes n a h = meets.numbered strict address command many bytes n a h

-- a reply of one frame is met
abbrev MeetsOne : Bool → ℕ → List ℕ → Type 0
MeetsOne strict command reply = Meets strict command (reply ∷ []) reply

-- a strict reader hears the address next to ours
read_next : ReaderMeets → (command : ℕ) → MeetsOne true command (acknowledgement 0x41 command)
read_next meets command = meets.one true 0x41 command _ (λ s e. absurd (omega (arith, e))) refl

-- a reader that is not strict hears every address, our own too
read_any : ReaderMeets → (address command : ℕ) → MeetsOne false command (acknowledgement address command)
read_any meets address command = meets.one false address command _ (λ s e. true≢false (sym s)) refl

-- every reply, by its name
read_every : ReaderMeets → (strict : Bool) (address : ℕ) → Heard strict address
    → ((k : SocWire) → MeetsOne strict 0x90 (soc_reply address k))
    × ((k : CellVoltageRangeCounts) → MeetsOne strict 0x91 (cell_voltage_range_reply address k))
    × ((k : TemperatureRange) → MeetsOne strict 0x92 (temperature_range_reply address k))
    × ((k : MosfetStatusWire) → MeetsOne strict 0x93 (mosfet_status_reply address k))
    × ((k : Status) → MeetsOne strict 0x94 (status_reply address k))
    × ((flags : List Bool) → MeetsOne strict 0x97 (balance_reply address flags))
    × ((flags : List Bool) → MeetsOne strict 0x98 (faults_reply address flags))
    × ((command : ℕ) → MeetsOne strict command (acknowledgement address command))
read_every meets strict address a = (
  (λ k. meets.one strict address 0x90 _ a refl),
  (λ k. meets.one strict address 0x91 _ a refl),
  (λ k. meets.one strict address 0x92 _ a refl),
  (λ k. meets.one strict address 0x93 _ a refl),
  (λ k. meets.one strict address 0x94 _ a refl),
  (λ flags. meets.one strict address 0x97 _ a refl),
  (λ flags. meets.one strict address 0x98 _ a refl),
  (λ command. meets.one strict address command _ a refl),
)

-- lists of up to 255 values, 85 frames of cells and 37 of sensors
read-lists : ReaderMeets → (strict : Bool) (address : ℕ) → Heard strict address
    → ((cells : List ℕ) → length cells ≤ 255 → Meets strict 0x95 (firsts (numbered_frame address 0x95 6 (cell_bytes cells)) (frames_for 3 (length cells))) (cells_reply address cells))
    × ((degrees : List ℤ) → length degrees ≤ 255 → Meets strict 0x96 (firsts (numbered_frame address 0x96 7 (map degree_byte degrees)) (frames_for 7 (length degrees))) (sensors_reply address degrees))
read-lists meets strict address a = (
  (λ cells h. meets.numbered strict address 0x95 6 (cell_bytes cells) (frames_for 3 (length cells)) a (omega (arith, h))),
  (λ degrees h. meets.numbered strict address 0x96 7 (map degree_byte degrees) (frames_for 7 (length degrees)) a (omega (arith, h))),
)
