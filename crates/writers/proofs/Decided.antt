-- Each contract of the crate allows one answer, and one exit of the lent bytes. Assumes nothing.
use Rattle.wire.proofs.Decides.{Decides, same, both}
use Rattle.list.proofs.Told.{tells_one}
use Rattle.writers.proofs.replies.CellVoltageRangeCountsFromCellVoltageRangeWire.from.Reads as cell_voltage_range_meant
use Rattle.writers.proofs.replies.TemperatureRangeFromTemperatureRangeWire.from.Reads as temperature_range_meant
use Rattle.writers.proofs.replies.StatusFromStatusWire.from.Reads as status_meant
use Rattle.writers.proofs.replies.daly_write_soc.Reads as daly_write_soc
use Rattle.writers.proofs.replies.daly_write_cell_voltage_range.Reads as daly_write_cell_voltage_range
use Rattle.writers.proofs.replies.daly_write_temperature_range.Reads as daly_write_temperature_range
use Rattle.writers.proofs.replies.daly_write_mosfet_status.Reads as daly_write_mosfet_status
use Rattle.writers.proofs.replies.daly_write_status.Reads as daly_write_status
use Rattle.writers.proofs.replies.daly_write_set_discharge_mosfet.Reads as daly_write_set_discharge_mosfet
use Rattle.writers.proofs.replies.daly_write_set_charge_mosfet.Reads as daly_write_set_charge_mosfet
use Rattle.writers.proofs.replies.daly_write_set_soc.Reads as daly_write_set_soc
use Rattle.writers.proofs.lists.daly_write_cell_voltages.Reads as daly_write_cell_voltages
use Rattle.writers.proofs.lists.daly_write_cell_temperatures.Reads as daly_write_cell_temperatures
use Rattle.writers.proofs.lists.daly_write_cell_balance_state.Reads as daly_write_cell_balance_state
use Rattle.writers.proofs.lists.daly_write_error_codes.Reads as daly_write_error_codes

-- what C's struct means
cell_voltage_range_meant-decides : Decides cell_voltage_range_meant.Post (λ κs r s. r)
cell_voltage_range_meant-decides κs a x y s t = same

temperature_range_meant-decides : Decides temperature_range_meant.Post (λ κs r s. r)
temperature_range_meant-decides κs a x y s t = same

status_meant-decides : Decides status_meant.Post (λ κs r s. r)
status_meant-decides κs a x y s t = same

-- the answer, and the lent bytes (the last parameter) at exit
daly_write_soc-decides : Decides daly_write_soc.Post (λ κs r s. both r s.1.1.0.now)
daly_write_soc-decides κs a x y s t = tells_one

daly_write_cell_voltage_range-decides : Decides daly_write_cell_voltage_range.Post (λ κs r s. both r s.1.1.0.now)
daly_write_cell_voltage_range-decides κs a x y s t = tells_one

daly_write_temperature_range-decides : Decides daly_write_temperature_range.Post (λ κs r s. both r s.1.1.0.now)
daly_write_temperature_range-decides κs a x y s t = tells_one

daly_write_mosfet_status-decides : Decides daly_write_mosfet_status.Post (λ κs r s. both r s.1.1.0.now)
daly_write_mosfet_status-decides κs a x y s t = tells_one

daly_write_status-decides : Decides daly_write_status.Post (λ κs r s. both r s.1.1.0.now)
daly_write_status-decides κs a x y s t = tells_one

daly_write_set_discharge_mosfet-decides : Decides daly_write_set_discharge_mosfet.Post (λ κs r s. both r s.1.0.now)
daly_write_set_discharge_mosfet-decides κs a x y s t = tells_one

daly_write_set_charge_mosfet-decides : Decides daly_write_set_charge_mosfet.Post (λ κs r s. both r s.1.0.now)
daly_write_set_charge_mosfet-decides κs a x y s t = tells_one

daly_write_set_soc-decides : Decides daly_write_set_soc.Post (λ κs r s. both r s.1.0.now)
daly_write_set_soc-decides κs a x y s t = tells_one

daly_write_cell_voltages-decides : Decides daly_write_cell_voltages.Post (λ κs r s. both r s.1.1.0.now)
daly_write_cell_voltages-decides κs a x y s t = tells_one

daly_write_cell_temperatures-decides : Decides daly_write_cell_temperatures.Post (λ κs r s. both r s.1.1.0.now)
daly_write_cell_temperatures-decides κs a x y s t = tells_one

daly_write_cell_balance_state-decides : Decides daly_write_cell_balance_state.Post (λ κs r s. both r s.1.1.0.now)
daly_write_cell_balance_state-decides κs a x y s t = tells_one

daly_write_error_codes-decides : Decides daly_write_error_codes.Post (λ κs r s. both r s.1.1.0.now)
daly_write_error_codes-decides κs a x y s t = tells_one
