-- What a struct of C means where the decoders' record has another layout: that record, field by field. Definitions only.
use Rattle.cell_voltage_range.specs.CellVoltageRange.{CellVoltageRangeCounts}
use Rattle.temperature_range.specs.declared.TemperatureRange.{TemperatureRange}
use Rattle.status.specs.declared.Status.{Status}
use Rattle.writers.specs.declared.replies.CellVoltageRangeWire.{CellVoltageRangeWire}
use Rattle.writers.specs.declared.replies.TemperatureRangeWire.{TemperatureRangeWire}
use Rattle.writers.specs.declared.replies.StatusWire.{StatusWire}

abbrev pub cell_voltage_range_meant : CellVoltageRangeWire → CellVoltageRangeCounts
cell_voltage_range_meant k = record { highest_voltage = k.highest_voltage; highest_cell = k.highest_cell; lowest_voltage = k.lowest_voltage; lowest_cell = k.lowest_cell }

abbrev pub temperature_range_meant : TemperatureRangeWire → TemperatureRange
temperature_range_meant k = record { highest_temperature = k.highest_temperature; highest_sensor = k.highest_sensor; lowest_temperature = k.lowest_temperature; lowest_sensor = k.lowest_sensor }

abbrev pub status_meant : StatusWire → Status
status_meant k = record { cells = k.cells; temperature_sensors = k.temperature_sensors; charger_running = k.charger_running; load_running = k.load_running; states = record { di1 = k.di1; di2 = k.di2; di3 = k.di3; di4 = k.di4; do1 = k.do1; do2 = k.do2; do3 = k.do3; do4 = k.do4 }; cycles = k.cycles }
