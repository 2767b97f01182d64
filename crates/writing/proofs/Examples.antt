-- Worked answers of document 02, K2, for the replies of one frame: their bytes, the refusals and their order. Assumes nothing.
use mathlib.Core.Path.{◌≡◌, refl}
use Prim.Native.Nat.{ℕ}
use mathlib.Core.Bool.{true, false}
use mathlib.Core.List.{List, [], ◌∷◌, ◌++◌, map}
use lib.IntN.{pos, negsuc}
use lib.ListN.{replicate}
use Rattle.std.specs.Prelude.{Result, Ok, Err}
use Rattle.wire.specs.Bytes.{bit}
use Rattle.frame.specs.declared.refusal.Refusal.TheVariants.{NoRoom, ValueOutOfRange}
use Rattle.frame.specs.declared.refusal.Refusal.{Refusal}
use Rattle.frame.specs.Refusals.{answer_number}
use Rattle.frame.specs.Frame.{total, sum, summed, frame}
use Rattle.status.specs.declared.IOState.{IOState}
use Rattle.writing.specs.declared.MosfetStatusWire.{MosfetStatusWire}
use Rattle.writing.specs.Replies.{room_check, WritesFrame, put_at, soc_reply, cell_voltage_range_reply, plus40, temperature_range_reply}
use Rattle.writing.specs.Replies.{mosfet_status_reply, mosfet_status_check, WritesMosfetStatus, state_byte, status_reply, acknowledgement}

-- 9 where there is one place too few
rooms : map (λ room. answer_number (room_check 13 room)) (0 ∷ 12 ∷ 13 ∷ 14 ∷ []) ++ map (λ size. answer_number (room_check size 0)) (0 ∷ 1 ∷ [])
    ≡ 9 ∷ 9 ∷ 0 ∷ 0 ∷ 0 ∷ 9 ∷ []
rooms = refl

-- a frame of 7s among 15 places: in their midst, at their end, and past it
puts : map (λ at. put_at at (replicate 13 7) (replicate 15 99)) (1 ∷ 2 ∷ 3 ∷ [])
    ≡ (99 ∷ replicate 13 7 ++ (99 ∷ [])) ∷ (99 ∷ 99 ∷ replicate 13 7) ∷ replicate 15 99 ∷ []
puts = refl

-- document 01's P6 as it was sent; and counts at their ends, from another address
soc-bytes :
    soc_reply 1 (record { total_voltage = 523; current = 29879; soc_percent = 874 })
    ∷ soc_reply 0x40 (record { total_voltage = 65535; current = 0; soc_percent = 1000 })
    ∷ []
    ≡ (0xA5 ∷ 0x01 ∷ 0x90 ∷ 0x08 ∷ 0x02 ∷ 0x0B ∷ 0x00 ∷ 0x00 ∷ 0x74 ∷ 0xB7 ∷ 0x03 ∷ 0x6A ∷ 0xE3 ∷ [])
    ∷ (0xA5 ∷ 0x40 ∷ 0x90 ∷ 0x08 ∷ 0xFF ∷ 0xFF ∷ 0x00 ∷ 0x00 ∷ 0x00 ∷ 0x00 ∷ 0x03 ∷ 0xE8 ∷ 0x66 ∷ [])
    ∷ []
unfolding frame summed sum total
soc-bytes = refl

range-bytes :
    cell_voltage_range_reply 1 (record { highest_voltage = 3312; highest_cell = 7; lowest_voltage = 3287; lowest_cell = 12 })
    ∷ cell_voltage_range_reply 0xFF (record { highest_voltage = 0x0102; highest_cell = 255; lowest_voltage = 0xFF00; lowest_cell = 0 })
    ∷ []
    ≡ (0xA5 ∷ 0x01 ∷ 0x91 ∷ 0x08 ∷ 0x0C ∷ 0xF0 ∷ 0x07 ∷ 0x0C ∷ 0xD7 ∷ 0x0C ∷ 0x00 ∷ 0x00 ∷ 0x31 ∷ [])
    ∷ (0xA5 ∷ 0xFF ∷ 0x91 ∷ 0x08 ∷ 0x01 ∷ 0x02 ∷ 0xFF ∷ 0xFF ∷ 0x00 ∷ 0x00 ∷ 0x00 ∷ 0x00 ∷ 0x3E ∷ [])
    ∷ []
unfolding frame summed sum total
range-bytes = refl

-- −128, −41, −40, −1, 0 and 127 degrees
degrees : map plus40 (negsuc 127 ∷ negsuc 40 ∷ negsuc 39 ∷ negsuc 0 ∷ pos 0 ∷ pos 127 ∷ []) ≡ 168 ∷ 255 ∷ 0 ∷ 39 ∷ 40 ∷ 167 ∷ []
degrees = refl

temperature-bytes :
    temperature_range_reply 1 (record { highest_temperature = negsuc 40; highest_sensor = 3; lowest_temperature = negsuc 127; lowest_sensor = 4 })
    ≡ 0xA5 ∷ 0x01 ∷ 0x92 ∷ 0x08 ∷ 0xFF ∷ 0x03 ∷ 0xA8 ∷ 0x04 ∷ 0x00 ∷ 0x00 ∷ 0x00 ∷ 0x00 ∷ 0xEE ∷ []
unfolding frame summed sum total
temperature-bytes = refl

-- all four bytes of the capacity differ
abbrev mosfets : ℕ → MosfetStatusWire
mosfets m = record { mode = m; charging_mosfet = true; discharging_mosfet = false; bms_cycles = 200; capacity_ah = 0x12345678 }

mosfet-bytes : mosfet_status_reply 1 (mosfets 2) ≡ 0xA5 ∷ 0x01 ∷ 0x93 ∷ 0x08 ∷ 0x02 ∷ 0x01 ∷ 0x00 ∷ 0xC8 ∷ 0x12 ∷ 0x34 ∷ 0x56 ∷ 0x78 ∷ 0x20 ∷ []
unfolding frame summed sum total
mosfet-bytes = refl

-- 12 from mode 3 on; 9; 12 before 9
mosfet_refusals :
    (map (λ m. answer_number (mosfet_status_check (mosfets m) 13)) (0 ∷ 2 ∷ 3 ∷ 255 ∷ [])
    ∷ map (λ room. answer_number (mosfet_status_check (mosfets 2) room)) (12 ∷ 13 ∷ 14 ∷ [])
    ∷ (answer_number (mosfet_status_check (mosfets 3) 12) ∷ [])
    ∷ [])
    ≡ (0 ∷ 0 ∷ 12 ∷ 12 ∷ []) ∷ (9 ∷ 0 ∷ 0 ∷ []) ∷ (12 ∷ []) ∷ []
mosfet_refusals = refl

-- bit 0 is di1, .., bit 7 is do4
abbrev states : ℕ → IOState
states n = record { di1 = bit n 0; di2 = bit n 1; di3 = bit n 2; di4 = bit n 3; do1 = bit n 4; do2 = bit n 5; do3 = bit n 6; do4 = bit n 7 }

state-bytes : map (λ n. state_byte (states n)) (0 ∷ 1 ∷ 2 ∷ 4 ∷ 8 ∷ 16 ∷ 32 ∷ 64 ∷ 128 ∷ 255 ∷ []) ≡ 0 ∷ 1 ∷ 2 ∷ 4 ∷ 8 ∷ 16 ∷ 32 ∷ 64 ∷ 128 ∷ 255 ∷ []
state-bytes = refl

status-bytes :
    status_reply 1 (record { cells = 16; temperature_sensors = 4; charger_running = true; load_running = false; states = states 0xA5; cycles = 0x1234 })
    ≡ 0xA5 ∷ 0x01 ∷ 0x94 ∷ 0x08 ∷ 0x10 ∷ 0x04 ∷ 0x01 ∷ 0x00 ∷ 0xA5 ∷ 0x12 ∷ 0x34 ∷ 0x00 ∷ 0x42 ∷ []
unfolding frame summed sum total
status-bytes = refl

acknowledgement-bytes : map (acknowledgement 1) (0xD9 ∷ 0xDA ∷ 0x21 ∷ [])
    ≡ (0xA5 ∷ 0x01 ∷ 0xD9 ∷ 0x08 ∷ 0x00 ∷ 0x00 ∷ 0x00 ∷ 0x00 ∷ 0x00 ∷ 0x00 ∷ 0x00 ∷ 0x00 ∷ 0x87 ∷ [])
    ∷ (0xA5 ∷ 0x01 ∷ 0xDA ∷ 0x08 ∷ 0x00 ∷ 0x00 ∷ 0x00 ∷ 0x00 ∷ 0x00 ∷ 0x00 ∷ 0x00 ∷ 0x00 ∷ 0x88 ∷ [])
    ∷ (0xA5 ∷ 0x01 ∷ 0x21 ∷ 0x08 ∷ 0x00 ∷ 0x00 ∷ 0x00 ∷ 0x00 ∷ 0x00 ∷ 0x00 ∷ 0x00 ∷ 0x00 ∷ 0xCF ∷ [])
    ∷ []
unfolding frame summed sum total
acknowledgement-bytes = refl

-- what the statements say of the answer and of the lent places
thirteen_places : (r : Result ℕ Refusal) (exit : List ℕ) → WritesFrame (replicate 13 7) (replicate 13 99) r exit → (r ≡ Ok 13) × (exit ≡ replicate 13 7)
thirteen_places r exit d = (d.answer, d.left)

fourteen_places : (r : Result ℕ Refusal) (exit : List ℕ) → WritesFrame (replicate 13 7) (replicate 14 99) r exit → (r ≡ Ok 13) × (exit ≡ replicate 13 7 ++ (99 ∷ []))
fourteen_places r exit d = (d.answer, d.left)

twelve_places : (r : Result ℕ Refusal) (exit : List ℕ) → WritesFrame (replicate 13 7) (replicate 12 99) r exit → (r ≡ Err NoRoom) × (exit ≡ replicate 12 99)
twelve_places r exit d = (d.answer, d.left)

mode_2 : (r : Result ℕ Refusal) (exit : List ℕ) → WritesMosfetStatus 1 (mosfets 2) (replicate 14 99) r exit
    → (r ≡ Ok 13) × (exit ≡ 0xA5 ∷ 0x01 ∷ 0x93 ∷ 0x08 ∷ 0x02 ∷ 0x01 ∷ 0x00 ∷ 0xC8 ∷ 0x12 ∷ 0x34 ∷ 0x56 ∷ 0x78 ∷ 0x20 ∷ 99 ∷ [])
unfolding frame summed sum total
mode_2 r exit d = (d.answer, d.left)

mode_3 : (r : Result ℕ Refusal) (exit : List ℕ) → WritesMosfetStatus 1 (mosfets 3) (replicate 12 99) r exit → (r ≡ Err ValueOutOfRange) × (exit ≡ replicate 12 99)
mode_3 r exit d = (d.answer, d.left)
