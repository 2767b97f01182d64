-- What C is told, worked out: each field in its place, zeros with a refusal, and the request of every command. Assumes nothing.
use Prim.Native.Nat.{ℕ}
use Rattle.std.proofs.Common.{Ok, Err}
use mathlib.Core.Path.{◌≡◌, refl}
use mathlib.Core.Bool.{Bool, true, false}
use mathlib.Core.List.{List, [], ◌∷◌, ◌++◌, map}
use lib.IntN.{ℤ, pos, neg_ℤ}
use lib.Ieee.{Float, nan, binary32, of_bits, of_int, div}
use lib.ListN.{replicate}
use Rattle.frame.specs.declared.refusal.Refusal.TheVariants.{ReplySizeError, CheckSumError, UnknownMode, NoRoom, UnknownCommand, CountTooLarge}
use Rattle.frame.specs.declared.FrameKind.TheVariants.{FromBoard, Echo}
use Rattle.frame.specs.Frame.{total, sum, summed, frame}
use Rattle.frame.specs.Checks.{sum_of, len_check, header_check, checksum_check, frame_check}
use Rattle.request.specs.Requests.{set_soc_request}
use Rattle.mosfet_status.specs.declared.MosfetMode.TheVariants.{Charging, Discharging}
use Rattle.daly.specs.Kinds.{frame_kind_told}
use Rattle.daly.specs.Readings.{soc_told, soc_counts_told, cell_voltage_range_told, cell_voltage_range_counts_told, temperature_range_told, mosfet_status_told, mosfet_status_counts_told, status_told}
use Rattle.daly.specs.Lists.{TellsVoltages, TellsMillivolts, TellsTemperatures, TellsBalance, TellsFaults, TellsCollected}
use Rattle.daly.specs.Packs.{pack_told}
use Rattle.daly.specs.Requests.{one_of, commands, request_of, asked_for, Requests}
use Rattle.list.specs.declared.ListTold.{ListTold}
use Rattle.list.specs.Listed.{gate, list_told}
use Rattle.list.specs.Numbered.{judge, judged}
use Rattle.flags.specs.Faults.{faults}
use Rattle.rules.specs.Reader.{joined, bad, complete}
use Rattle.rules.proofs.Examples.{nothing, answered, c90, frame90}

-- 52.3, −12.1, 87.4 and 0.0 by their bits
abbrev volts : Float
volts = of_bits binary32 0x4251_3333

abbrev amperes : Float
amperes = of_bits binary32 0xC141_999A

abbrev percent : Float
percent = of_bits binary32 0x42AE_CCCD

abbrev none : Float
none = of_bits binary32 0

-- both sound kinds are 0, and one of them is an echo; no unsound frame is one
kinds_told :
    (frame_kind_told (Ok FromBoard) ≡ record { number = 0; echo = false })
    × (frame_kind_told (Ok Echo) ≡ record { number = 0; echo = true })
    × (frame_kind_told (Err CheckSumError) ≡ record { number = 3; echo = false })
    × (frame_kind_told (Err ReplySizeError) ≡ record { number = 1; echo = false })
kinds_told = (refl, refl, refl, refl)

soc-told :
    (soc_told (Ok record { total_voltage = volts; current = amperes; soc_percent = percent })
    ≡ record { number = 0; total_voltage = volts; current = amperes; soc_percent = percent })
    × (soc_told (Err CheckSumError) ≡ record { number = 3; total_voltage = none; current = none; soc_percent = none })
    × (soc_counts_told (Ok record { total_voltage = 523; current = neg_ℤ (pos 121); soc_percent = 874 })
    ≡ record { number = 0; total_voltage = 523; current = neg_ℤ (pos 121); soc_percent = 874 })
    × (soc_counts_told (Err ReplySizeError) ≡ record { number = 1; total_voltage = 0; current = pos 0; soc_percent = 0 })
soc-told = (refl, refl, refl, refl)

ranges_told :
    (cell_voltage_range_told (Ok record { highest_voltage = volts; highest_cell = 3; lowest_voltage = percent; lowest_cell = 8 })
    ≡ record { number = 0; highest_voltage = volts; highest_cell = 3; lowest_voltage = percent; lowest_cell = 8 })
    × (cell_voltage_range_told (Err CheckSumError) ≡ record { number = 3; highest_voltage = none; highest_cell = 0; lowest_voltage = none; lowest_cell = 0 })
    × (cell_voltage_range_counts_told (Ok record { highest_voltage = 3301; highest_cell = 3; lowest_voltage = 3296; lowest_cell = 8 })
    ≡ record { number = 0; highest_voltage = 3301; highest_cell = 3; lowest_voltage = 3296; lowest_cell = 8 })
    × (cell_voltage_range_counts_told (Err CheckSumError) ≡ record { number = 3; highest_voltage = 0; highest_cell = 0; lowest_voltage = 0; lowest_cell = 0 })
    × (temperature_range_told (Ok record { highest_temperature = pos 30; highest_sensor = 2; lowest_temperature = neg_ℤ (pos 5); lowest_sensor = 1 })
    ≡ record { number = 0; highest_temperature = pos 30; highest_sensor = 2; lowest_temperature = neg_ℤ (pos 5); lowest_sensor = 1 })
    × (temperature_range_told (Err CheckSumError) ≡ record { number = 3; highest_temperature = pos 0; highest_sensor = 0; lowest_temperature = pos 0; lowest_sensor = 0 })
ranges_told = (refl, refl, refl, refl, refl, refl)

mosfet-told :
    (mosfet_status_told (Ok record { mode = Discharging; charging_mosfet = true; discharging_mosfet = false; bms_cycles = 7; capacity_ah = percent })
    ≡ record { number = 0; mode = 2; charging_mosfet = true; discharging_mosfet = false; bms_cycles = 7; capacity_ah = percent })
    × (mosfet_status_told (Err UnknownMode) ≡ record { number = 5; mode = 0; charging_mosfet = false; discharging_mosfet = false; bms_cycles = 0; capacity_ah = none })
    × (mosfet_status_counts_told (Ok record { mode = Charging; charging_mosfet = false; discharging_mosfet = true; bms_cycles = 7; capacity_ah = 100_000 })
    ≡ record { number = 0; mode = 1; charging_mosfet = false; discharging_mosfet = true; bms_cycles = 7; capacity_ah = 100_000 })
    × (mosfet_status_counts_told (Err UnknownMode) ≡ record { number = 5; mode = 0; charging_mosfet = false; discharging_mosfet = false; bms_cycles = 0; capacity_ah = 0 })
mosfet-told = (refl, refl, refl, refl)

-- every second input and output is on
status-told :
    (status_told (Ok record { cells = 16; temperature_sensors = 4; charger_running = true; load_running = false; states = record { di1 = true; di2 = false; di3 = true; di4 = false; do1 = true; do2 = false; do3 = true; do4 = false }; cycles = 259 })
    ≡ record { number = 0; cells = 16; temperature_sensors = 4; charger_running = true; load_running = false; di1 = true; di2 = false; di3 = true; di4 = false; do1 = true; do2 = false; do3 = true; do4 = false; cycles = 259 })
    × (status_told (Err CheckSumError)
    ≡ record { number = 3; cells = 0; temperature_sensors = 0; charger_running = false; load_running = false; di1 = false; di2 = false; di3 = false; di4 = false; do1 = false; do2 = false; do3 = false; do4 = false; cycles = 0 })
status-told = (refl, refl)

lists-told : (list_told (Ok 8) ≡ record { number = 0; count = 8 }) × (list_told (Err NoRoom) ≡ record { number = 9; count = 0 })
lists-told = (refl, refl)

packs-told :
    (pack_told (Ok record { difference = neg_ℤ (pos 50); agrees = true }) ≡ record { number = 0; agrees = true; difference = neg_ℤ (pos 50) })
    × (pack_told (Err CountTooLarge) ≡ record { number = 11; agrees = false; difference = pos 0 })
packs-told = (refl, refl)

-- thirteen commands, and their neighbours that are none
known : (map (one_of commands) (0x90 ∷ 0x91 ∷ 0x92 ∷ 0x93 ∷ 0x94 ∷ 0x95 ∷ 0x96 ∷ 0x97 ∷ 0x98 ∷ 0xD9 ∷ 0xDA ∷ 0x21 ∷ 0x00 ∷ []) ≡ replicate 13 true)
    × (map (one_of commands) (0x8F ∷ 0x99 ∷ 0xD8 ∷ 0xDB ∷ 0x20 ∷ 0x22 ∷ 0x01 ∷ 0xFF ∷ []) ≡ replicate 8 false)
known = (refl, refl)

-- as the Rust sends them: a question, both switches, a reset; `enable` is read only where it is meant
requests : request_of 0x95 true volts ∷ request_of 0xD9 true volts ∷ request_of 0xDA false volts ∷ request_of 0xDA true volts ∷ request_of 0x00 true volts ∷ []
    ≡ (0xA5 ∷ 0x40 ∷ 0x95 ∷ 0x08 ∷ 0 ∷ 0 ∷ 0 ∷ 0 ∷ 0 ∷ 0 ∷ 0 ∷ 0 ∷ 0x82 ∷ [])
    ∷ (0xA5 ∷ 0x40 ∷ 0xD9 ∷ 0x08 ∷ 1 ∷ 0 ∷ 0 ∷ 0 ∷ 0 ∷ 0 ∷ 0 ∷ 0 ∷ 0xC7 ∷ [])
    ∷ (0xA5 ∷ 0x40 ∷ 0xDA ∷ 0x08 ∷ 0 ∷ 0 ∷ 0 ∷ 0 ∷ 0 ∷ 0 ∷ 0 ∷ 0 ∷ 0xC7 ∷ [])
    ∷ (0xA5 ∷ 0x40 ∷ 0xDA ∷ 0x08 ∷ 1 ∷ 0 ∷ 0 ∷ 0 ∷ 0 ∷ 0 ∷ 0 ∷ 0 ∷ 0xC8 ∷ [])
    ∷ (0xA5 ∷ 0x40 ∷ 0x00 ∷ 0x08 ∷ 0 ∷ 0 ∷ 0 ∷ 0 ∷ 0 ∷ 0 ∷ 0 ∷ 0 ∷ 0xED ∷ [])
    ∷ []
unfolding frame summed sum total
requests = refl

-- 21 sends the percentage
charge : request_of 0x21 false percent ≡ set_soc_request percent
charge = refl

-- a switch that is off, the percentage, and no request of 99
answers :
    (asked_for 0xD9 false volts ≡ Ok (0xA5 ∷ 0x40 ∷ 0xD9 ∷ 0x08 ∷ 0 ∷ 0 ∷ 0 ∷ 0 ∷ 0 ∷ 0 ∷ 0 ∷ 0 ∷ 0xC6 ∷ []))
    × (asked_for 0xD9 true volts ≡ Ok (0xA5 ∷ 0x40 ∷ 0xD9 ∷ 0x08 ∷ 1 ∷ 0 ∷ 0 ∷ 0 ∷ 0 ∷ 0 ∷ 0 ∷ 0 ∷ 0xC7 ∷ []))
    × (asked_for 0x21 false percent ≡ Ok (set_soc_request percent))
    × (asked_for 0x99 true volts ≡ Err UnknownCommand)
unfolding frame summed sum total
answers = (refl, refl, refl, refl)

-- what `daly_request` says, and the 13 lent bytes afterwards: a request; and 10 with the bytes as they were
asked : (r : ℕ) (exit : List ℕ) → Requests 0xDA true volts (replicate 13 7) r exit
    → (r ≡ 0) × (exit ≡ 0xA5 ∷ 0x40 ∷ 0xDA ∷ 0x08 ∷ 1 ∷ 0 ∷ 0 ∷ 0 ∷ 0 ∷ 0 ∷ 0 ∷ 0 ∷ 0xC8 ∷ [])
unfolding frame summed sum total
asked r exit q = (q.answer, q.left)

not-asked : (r : ℕ) (exit : List ℕ) → Requests 0x99 true volts (replicate 13 7) r exit → (r ≡ 10) × (exit ≡ replicate 13 7)
not-asked r exit q = (q.answer, q.left)

-- what C is told of a list, and the lent places afterwards: two values, and the place behind them as it was
abbrev told-two : ListTold
told-two = record { number = 0; count = 2 }

abbrev cells : List ℕ
cells = frame 1 0x95 (1 ∷ 0x0C ∷ 0xF0 ∷ 0x0C ∷ 0xF1 ∷ 0x0C ∷ 0xF2 ∷ 0 ∷ [])

millivolts : (r : ListTold) (exit : List ℕ) → TellsMillivolts cells 2 (7 ∷ 8 ∷ 9 ∷ []) r exit → (r ≡ told-two) × (exit ≡ 3312 ∷ 3313 ∷ 9 ∷ [])
unfolding total sum summed frame sum_of len_check header_check checksum_check frame_check gate judge judged
millivolts r exit q = (q.answer, q.left)

cell-volts : (r : ListTold) (exit : List Float) → TellsVoltages cells 2 (nan ∷ nan ∷ nan ∷ []) r exit
    → (r ≡ told-two) × (exit ≡ of_bits binary32 0x4053_F7CF ∷ of_bits binary32 0x4054_0831 ∷ nan ∷ [])
unfolding total sum summed frame sum_of len_check header_check checksum_check frame_check gate judge judged of_int div of_bits
cell-volts r exit q = (q.answer, q.left)

degrees : (r : ListTold) (exit : List ℤ) → TellsTemperatures (frame 1 0x96 (1 ∷ 41 ∷ 42 ∷ 43 ∷ 0 ∷ 0 ∷ 0 ∷ 0 ∷ [])) 2 (pos 7 ∷ pos 8 ∷ pos 9 ∷ []) r exit
    → (r ≡ told-two) × (exit ≡ pos 1 ∷ pos 2 ∷ pos 9 ∷ [])
unfolding total sum summed frame sum_of len_check header_check checksum_check frame_check gate judge judged
degrees r exit q = (q.answer, q.left)

flags : (r : ListTold) (exit : List Bool) → TellsBalance (frame 1 0x97 (0x02 ∷ 0 ∷ 0 ∷ 0 ∷ 0 ∷ 0 ∷ 0 ∷ 0 ∷ [])) 2 (true ∷ true ∷ true ∷ []) r exit
    → (r ≡ told-two) × (exit ≡ false ∷ true ∷ true ∷ [])
unfolding total sum summed frame sum_of len_check header_check checksum_check frame_check gate judge judged
flags r exit q = (q.answer, q.left)

faults_listed : (r : ListTold) (exit : List ℕ) → TellsFaults (frame 1 0x98 (0 ∷ 0 ∷ 3 ∷ 0 ∷ 0 ∷ 0 ∷ 0 ∷ 0 ∷ [])) (replicate 48 99) r exit
    → (r ≡ told-two) × (exit ≡ 17 ∷ 16 ∷ replicate 46 99)
unfolding total sum summed frame sum_of len_check header_check checksum_check frame_check gate judge judged faults
faults_listed r exit q = (q.answer, q.left)

copied_out : (r : ListTold) (exit : List ℕ) → TellsCollected (answered c90 0 0 (frame90 ∷ []) [] 13 nothing 0 false).reader (replicate 14 99) r exit
    → (r ≡ record { number = 0; count = 13 }) × (exit ≡ frame90 ++ (99 ∷ []))
unfolding joined bad complete
copied_out r exit q = (q.answer, q.left)
