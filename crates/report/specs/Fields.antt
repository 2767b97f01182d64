-- Document 01, `readreply`: the fields of the one-frame replies "in source order as whole wire units after offsets, or `refused N`". Definitions only.
use Rattle.std.specs.Prelude.{ℕ, List, ◌++◌, Result}
use Rattle.frame.specs.declared.refusal.Refusal.{Refusal}
use Rattle.soc.specs.Soc.{SocCounts}
use Rattle.cell_voltage_range.specs.CellVoltageRange.{CellVoltageRangeCounts}
use Rattle.temperature_range.specs.declared.TemperatureRange.{TemperatureRange}
use Rattle.mosfet_status.specs.MosfetStatus.{MosfetStatusCounts, mode_number}
use Rattle.status.specs.declared.IOState.{IOState}
use Rattle.status.specs.declared.Status.{Status}
use Rattle.text.specs.Words.{word}
use Rattle.text.specs.Text.{line, signed_line}
use Rattle.report.specs.Lines.{flag_line, told}

-- 90
abbrev pub soc_lines : SocCounts → List ℕ
soc_lines k =
    line (word "total_voltage") k.total_voltage
    ++ signed_line (word "current") k.current
    ++ line (word "soc_percent") k.soc_percent

abbrev pub soc_text : Result SocCounts Refusal → List ℕ
soc_text = told soc_lines

-- 91
abbrev pub cell_voltage_range_lines : CellVoltageRangeCounts → List ℕ
cell_voltage_range_lines k =
    line (word "highest_voltage") k.highest_voltage
    ++ line (word "highest_cell") k.highest_cell
    ++ line (word "lowest_voltage") k.lowest_voltage
    ++ line (word "lowest_cell") k.lowest_cell

abbrev pub cell_voltage_range_text : Result CellVoltageRangeCounts Refusal → List ℕ
cell_voltage_range_text = told cell_voltage_range_lines

-- 92
abbrev pub temperature_range_lines : TemperatureRange → List ℕ
temperature_range_lines k =
    signed_line (word "highest_temperature") k.highest_temperature
    ++ line (word "highest_sensor") k.highest_sensor
    ++ signed_line (word "lowest_temperature") k.lowest_temperature
    ++ line (word "lowest_sensor") k.lowest_sensor

abbrev pub temperature_range_text : Result TemperatureRange Refusal → List ℕ
temperature_range_text = told temperature_range_lines

-- 93
abbrev pub mosfet_status_lines : MosfetStatusCounts → List ℕ
mosfet_status_lines k =
    line (word "mode") (mode_number k.mode)
    ++ flag_line (word "charging_mosfet") k.charging_mosfet
    ++ flag_line (word "discharging_mosfet") k.discharging_mosfet
    ++ line (word "bms_cycles") k.bms_cycles
    ++ line (word "capacity_ah") k.capacity_ah

abbrev pub mosfet_status_text : Result MosfetStatusCounts Refusal → List ℕ
mosfet_status_text = told mosfet_status_lines

-- 94: "`states` gives its eight flags as eight lines named `di1` to `do4`"
abbrev pub input_lines : IOState → List ℕ
input_lines k =
    flag_line (word "di1") k.di1
    ++ flag_line (word "di2") k.di2
    ++ flag_line (word "di3") k.di3
    ++ flag_line (word "di4") k.di4

abbrev pub output_lines : IOState → List ℕ
output_lines k =
    flag_line (word "do1") k.do1
    ++ flag_line (word "do2") k.do2
    ++ flag_line (word "do3") k.do3
    ++ flag_line (word "do4") k.do4

abbrev pub states_lines : IOState → List ℕ
states_lines k = input_lines k ++ output_lines k

abbrev pub status_front : Status → List ℕ
status_front k =
    line (word "cells") k.cells
    ++ line (word "temperature_sensors") k.temperature_sensors
    ++ flag_line (word "charger_running") k.charger_running
    ++ flag_line (word "load_running") k.load_running

abbrev pub status_lines : Status → List ℕ
status_lines k = status_front k ++ states_lines k.states ++ line (word "cycles") k.cycles

abbrev pub status_text : Result Status Refusal → List ℕ
status_text = told status_lines
