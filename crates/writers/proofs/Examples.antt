-- What C hands in and is told, worked out: each field in its place, the number and how many bytes, and the lent bytes afterwards. Assumes nothing.
use Prim.Native.Nat.{ℕ}
use mathlib.Core.Path.{◌≡◌, refl}
use mathlib.Core.Bool.{Bool, true, false}
use mathlib.Core.List.{List, [], ◌∷◌, ◌++◌}
use lib.IntN.{pos, neg_ℤ}
use lib.ListN.{replicate}
use Rattle.frame.specs.Frame.{total, sum, summed, frame}
use Rattle.rules.specs.Reader.{joined}
use Rattle.list.specs.declared.ListTold.{ListTold}
use Rattle.writing.specs.Replies.{soc_reply}
use Rattle.writing_lists.specs.Numbered.{numbered_frame, numbered_reply}
use Rattle.writers.specs.declared.replies.StatusWire.{StatusWire}
use Rattle.writers.specs.Meant.{cell_voltage_range_meant, temperature_range_meant, status_meant}
use Rattle.writers.specs.Told.{TellsFrame, TellsMosfetStatus, TellsCells, TellsSensors, TellsBalance}

ranges_meant :
    (cell_voltage_range_meant record { highest_voltage = 3301; highest_cell = 3; lowest_voltage = 3296; lowest_cell = 8 }
    ≡ record { highest_voltage = 3301; highest_cell = 3; lowest_voltage = 3296; lowest_cell = 8 })
    × (temperature_range_meant record { highest_temperature = pos 30; highest_sensor = 2; lowest_temperature = neg_ℤ (pos 5); lowest_sensor = 1 }
    ≡ record { highest_temperature = pos 30; highest_sensor = 2; lowest_temperature = neg_ℤ (pos 5); lowest_sensor = 1 })
ranges_meant = (refl, refl)

-- a board with these inputs and outputs
abbrev board : Bool → Bool → Bool → Bool → Bool → Bool → Bool → Bool → StatusWire
board a b c d e f g h = record { cells = 16; temperature_sensors = 4; charger_running = true; load_running = false; di1 = a; di2 = b; di3 = c; di4 = d; do1 = e; do2 = f; do3 = g; do4 = h; cycles = 259 }

-- three boards, in which no two of the eight are alike
status-meant :
    (status_meant (board true false true false true false true false)
    ≡ record { cells = 16; temperature_sensors = 4; charger_running = true; load_running = false; states = record { di1 = true; di2 = false; di3 = true; di4 = false; do1 = true; do2 = false; do3 = true; do4 = false }; cycles = 259 })
    × ((status_meant (board true true false false true true false false)).states
    ≡ record { di1 = true; di2 = true; di3 = false; di4 = false; do1 = true; do2 = true; do3 = false; do4 = false })
    × ((status_meant (board true true true true false false false false)).states
    ≡ record { di1 = true; di2 = true; di3 = true; di4 = true; do1 = false; do2 = false; do3 = false; do4 = false })
status-meant = (refl, refl, refl)

abbrev told : ℕ → ℕ → ListTold
told number count = record { number = number; count = count }

-- 90 as document 01 has it, and the byte behind it as it was; 13 bytes are enough, 12 are not
abbrev soc : List ℕ
soc = soc_reply 1 record { total_voltage = 523; current = 29879; soc_percent = 874 }

frame-told : (r : ListTold) (exit : List ℕ) → TellsFrame soc (replicate 14 7) r exit
    → (r ≡ told 0 13) × (exit ≡ 0xA5 ∷ 0x01 ∷ 0x90 ∷ 0x08 ∷ 0x02 ∷ 0x0B ∷ 0x00 ∷ 0x00 ∷ 0x74 ∷ 0xB7 ∷ 0x03 ∷ 0x6A ∷ 0xE3 ∷ 7 ∷ [])
unfolding total sum summed frame
frame-told r exit q = (q.answer, q.left)

just_room-told : (r : ListTold) (exit : List ℕ) → TellsFrame soc (replicate 13 7) r exit → (r ≡ told 0 13) × (exit ≡ soc)
unfolding total sum summed frame
just_room-told r exit q = (q.answer, q.left)

no_room-told : (r : ListTold) (exit : List ℕ) → TellsFrame soc (replicate 12 7) r exit → (r ≡ told 9 0) × (exit ≡ replicate 12 7)
no_room-told r exit q = (q.answer, q.left)

-- 93: mode 2 from the address 5; mode 3 is 12, also without room
mosfet-told : (r : ListTold) (exit : List ℕ)
    → TellsMosfetStatus 5 record { mode = 2; charging_mosfet = true; discharging_mosfet = false; bms_cycles = 23; capacity_ah = 16_777_219 } (replicate 14 7) r exit
    → (r ≡ told 0 13) × (exit ≡ frame 5 0x93 (2 ∷ 1 ∷ 0 ∷ 23 ∷ 1 ∷ 0 ∷ 0 ∷ 3 ∷ []) ++ (7 ∷ []))
unfolding total sum summed frame
mosfet-told r exit q = (q.answer, q.left)

no_mode-told : (r : ListTold) (exit : List ℕ)
    → TellsMosfetStatus 5 record { mode = 3; charging_mosfet = true; discharging_mosfet = false; bms_cycles = 23; capacity_ah = 3 } [] r exit
    → (r ≡ told 12 0) × (exit ≡ [])
no_mode-told r exit q = (q.answer, q.left)

-- 95: four cells in two frames, from the address 5; with a byte less, nothing
cells_told : (r : ListTold) (exit : List ℕ) → TellsCells 5 (3301 ∷ 3298 ∷ 3302 ∷ 3297 ∷ []) (replicate 27 7) r exit
    → (r ≡ told 0 26)
    × (exit ≡ frame 5 0x95 (1 ∷ 0x0C ∷ 0xE5 ∷ 0x0C ∷ 0xE2 ∷ 0x0C ∷ 0xE6 ∷ 0 ∷ []) ++ (frame 5 0x95 (2 ∷ 0x0C ∷ 0xE1 ∷ 0 ∷ 0 ∷ 0 ∷ 0 ∷ 0 ∷ []) ++ (7 ∷ [])))
unfolding total sum summed frame joined numbered_frame numbered_reply
cells_told r exit q = (q.answer, q.left)

cells_no_room-told : (r : ListTold) (exit : List ℕ) → TellsCells 5 (3301 ∷ 3298 ∷ 3302 ∷ 3297 ∷ []) (replicate 25 7) r exit → (r ≡ told 9 0) × (exit ≡ replicate 25 7)
unfolding total sum summed frame joined numbered_frame numbered_reply
cells_no_room-told r exit q = (q.answer, q.left)

-- 96: two sensors from the address 5; one at 216 is 12, also without room
sensors-told : (r : ListTold) (exit : List ℕ) → TellsSensors 5 (pos 25 ∷ neg_ℤ (pos 40) ∷ []) (replicate 14 7) r exit
    → (r ≡ told 0 13) × (exit ≡ frame 5 0x96 (1 ∷ 65 ∷ 0 ∷ 0 ∷ 0 ∷ 0 ∷ 0 ∷ 0 ∷ []) ++ (7 ∷ []))
unfolding total sum summed frame joined numbered_frame numbered_reply
sensors-told r exit q = (q.answer, q.left)

sensor_too_hot_told : (r : ListTold) (exit : List ℕ) → TellsSensors 5 (pos 25 ∷ pos 216 ∷ []) [] r exit → (r ≡ told 12 0) × (exit ≡ [])
unfolding total sum summed frame joined numbered_frame numbered_reply
sensor_too_hot_told r exit q = (q.answer, q.left)

-- 97: three flags from the address 5; of none it is 12, also without room
flags-told : (r : ListTold) (exit : List ℕ) → TellsBalance 5 (true ∷ false ∷ true ∷ []) (replicate 14 7) r exit
    → (r ≡ told 0 13) × (exit ≡ frame 5 0x97 (5 ∷ 0 ∷ 0 ∷ 0 ∷ 0 ∷ 0 ∷ 0 ∷ 0 ∷ []) ++ (7 ∷ []))
unfolding total sum summed frame
flags-told r exit q = (q.answer, q.left)

no_flags-told : (r : ListTold) (exit : List ℕ) → TellsBalance 5 [] [] r exit → (r ≡ told 12 0) × (exit ≡ [])
no_flags-told r exit q = (q.answer, q.left)
