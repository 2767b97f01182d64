-- What C is told of a one-frame reply: document 01's number and the record, or the number and zeros. Definitions only.
use Rattle.std.specs.Prelude.{false, pos, Float, Result, Ok, Err}
use Rattle.std.specs.Float.{binary32}
use Rattle.std.specs.Float.Ieee.{of_bits}
use Rattle.frame.specs.declared.refusal.Refusal.{Refusal}
use Rattle.frame.specs.Refusals.{refusal_number}
use Rattle.mosfet_status.specs.MosfetStatus.{mode_number, MosfetStatusCounts, MosfetStatusRecord}
use Rattle.soc.specs.Soc.{SocCounts, SocRecord}
use Rattle.cell_voltage_range.specs.CellVoltageRange.{CellVoltageRangeCounts, CellVoltageRangeRecord}
use Rattle.temperature_range.specs.declared.TemperatureRange.{TemperatureRange}
use Rattle.status.specs.declared.Status.{Status}
use Rattle.daly.specs.declared.readings.SocTold.{SocTold}
use Rattle.daly.specs.declared.readings.SocCountsTold.{SocCountsTold}
use Rattle.daly.specs.declared.readings.CellVoltageRangeTold.{CellVoltageRangeTold}
use Rattle.daly.specs.declared.readings.CellVoltageRangeCountsTold.{CellVoltageRangeCountsTold}
use Rattle.daly.specs.declared.readings.TemperatureRangeTold.{TemperatureRangeTold}
use Rattle.daly.specs.declared.readings.MosfetStatusTold.{MosfetStatusTold}
use Rattle.daly.specs.declared.readings.MosfetStatusCountsTold.{MosfetStatusCountsTold}
use Rattle.daly.specs.declared.readings.StatusTold.{StatusTold}

-- the bits that are all zero: 0.0
abbrev pub no_float : Float
no_float = of_bits binary32 0

abbrev pub soc_told : Result SocRecord Refusal → SocTold
soc_told (Ok v) = record { number = 0; total_voltage = v.total_voltage; current = v.current; soc_percent = v.soc_percent }
soc_told (Err r) = record { number = refusal_number r; total_voltage = no_float; current = no_float; soc_percent = no_float }

abbrev pub soc_counts_told : Result SocCounts Refusal → SocCountsTold
soc_counts_told (Ok v) = record { number = 0; total_voltage = v.total_voltage; current = v.current; soc_percent = v.soc_percent }
soc_counts_told (Err r) = record { number = refusal_number r; total_voltage = 0; current = pos 0; soc_percent = 0 }

abbrev pub cell_voltage_range_told : Result CellVoltageRangeRecord Refusal → CellVoltageRangeTold
cell_voltage_range_told (Ok v) = record { number = 0; highest_voltage = v.highest_voltage; highest_cell = v.highest_cell; lowest_voltage = v.lowest_voltage; lowest_cell = v.lowest_cell }
cell_voltage_range_told (Err r) = record { number = refusal_number r; highest_voltage = no_float; highest_cell = 0; lowest_voltage = no_float; lowest_cell = 0 }

abbrev pub cell_voltage_range_counts_told : Result CellVoltageRangeCounts Refusal → CellVoltageRangeCountsTold
cell_voltage_range_counts_told (Ok v) = record { number = 0; highest_voltage = v.highest_voltage; highest_cell = v.highest_cell; lowest_voltage = v.lowest_voltage; lowest_cell = v.lowest_cell }
cell_voltage_range_counts_told (Err r) = record { number = refusal_number r; highest_voltage = 0; highest_cell = 0; lowest_voltage = 0; lowest_cell = 0 }

abbrev pub temperature_range_told : Result TemperatureRange Refusal → TemperatureRangeTold
temperature_range_told (Ok v) = record { number = 0; highest_temperature = v.highest_temperature; highest_sensor = v.highest_sensor; lowest_temperature = v.lowest_temperature; lowest_sensor = v.lowest_sensor }
temperature_range_told (Err r) = record { number = refusal_number r; highest_temperature = pos 0; highest_sensor = 0; lowest_temperature = pos 0; lowest_sensor = 0 }

abbrev pub mosfet_status_told : Result MosfetStatusRecord Refusal → MosfetStatusTold
mosfet_status_told (Ok v) = record { number = 0; mode = mode_number v.mode; charging_mosfet = v.charging_mosfet; discharging_mosfet = v.discharging_mosfet; bms_cycles = v.bms_cycles; capacity_ah = v.capacity_ah }
mosfet_status_told (Err r) = record { number = refusal_number r; mode = 0; charging_mosfet = false; discharging_mosfet = false; bms_cycles = 0; capacity_ah = no_float }

abbrev pub mosfet_status_counts_told : Result MosfetStatusCounts Refusal → MosfetStatusCountsTold
mosfet_status_counts_told (Ok v) = record { number = 0; mode = mode_number v.mode; charging_mosfet = v.charging_mosfet; discharging_mosfet = v.discharging_mosfet; bms_cycles = v.bms_cycles; capacity_ah = v.capacity_ah }
mosfet_status_counts_told (Err r) = record { number = refusal_number r; mode = 0; charging_mosfet = false; discharging_mosfet = false; bms_cycles = 0; capacity_ah = 0 }

abbrev pub status_told : Result Status Refusal → StatusTold
status_told (Ok v) = record { number = 0; cells = v.cells; temperature_sensors = v.temperature_sensors; charger_running = v.charger_running; load_running = v.load_running; di1 = v.states.di1; di2 = v.states.di2; di3 = v.states.di3; di4 = v.states.di4; do1 = v.states.do1; do2 = v.states.do2; do3 = v.states.do3; do4 = v.states.do4; cycles = v.cycles }
status_told (Err r) = record { number = refusal_number r; cells = 0; temperature_sensors = 0; charger_running = false; load_running = false; di1 = false; di2 = false; di3 = false; di4 = false; do1 = false; do2 = false; do3 = false; do4 = false; cycles = 0 }
