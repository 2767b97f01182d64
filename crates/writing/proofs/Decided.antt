-- Each contract of the crate allows one answer, and one exit of the lent places. Assumes nothing.
use Rattle.wire.proofs.Decides.{Decides, same, both}
use Rattle.list.proofs.Decoding.{pinned}
use Rattle.writing.proofs.put_frame.Reads as put_frame
use Rattle.writing.proofs.write_frame.Reads as write_frame
use Rattle.writing.proofs.SocWireOneFrame.data.Reads as soc_data
use Rattle.writing.proofs.CellVoltageRangeCountsOneFrame.data.Reads as cell_voltage_range_data
use Rattle.writing.proofs.TemperatureRangeOneFrame.data.Reads as temperature_range_data
use Rattle.writing.proofs.MosfetStatusWireOneFrame.data.Reads as mosfet_status_data
use Rattle.writing.proofs.StatusOneFrame.data.Reads as status_data
use Rattle.writing.proofs.write.Reads as write
use Rattle.writing.proofs.write_soc.Reads as write_soc
use Rattle.writing.proofs.write_cell_voltage_range.Reads as write_cell_voltage_range
use Rattle.writing.proofs.write_temperature_range.Reads as write_temperature_range
use Rattle.writing.proofs.write_mosfet_status.Reads as write_mosfet_status
use Rattle.writing.proofs.write_status.Reads as write_status
use Rattle.writing.proofs.write_set_discharge_mosfet.Reads as write_set_discharge_mosfet
use Rattle.writing.proofs.write_set_charge_mosfet.Reads as write_set_charge_mosfet
use Rattle.writing.proofs.write_set_soc.Reads as write_set_soc

-- the data bytes
soc_data-decides : Decides soc_data.Post (λ κs r s. r)
soc_data-decides κs a x y s t = same

cell_voltage_range_data-decides : Decides cell_voltage_range_data.Post (λ κs r s. r)
cell_voltage_range_data-decides κs a x y s t = same

temperature_range_data-decides : Decides temperature_range_data.Post (λ κs r s. r)
temperature_range_data-decides κs a x y s t = same

mosfet_status_data-decides : Decides mosfet_status_data.Post (λ κs r s. r)
mosfet_status_data-decides κs a x y s t = same

status_data-decides : Decides status_data.Post (λ κs r s. r)
status_data-decides κs a x y s t = same

-- the lent places (the second parameter) at exit; nothing is answered
put_frame-decides : Decides put_frame.Post (λ κs r s. s.1.0.now)
put_frame-decides κs a x y s t = same

-- the answer, and the lent places (the second parameter) at exit
write_frame-decides : Decides write_frame.Post (λ κs r s. both r s.1.0.now)
write_frame-decides κs a x y s t = pinned

-- here the third parameter; whatever is one frame
module _ (R : _) (L : _) (C : _) (G : _) where
  write-decides : Decides (write.Post R L C G) (λ κs r s. both r s.1.1.0.now)
  write-decides κs a x y s t = pinned

write_soc-decides : Decides write_soc.Post (λ κs r s. both r s.1.1.0.now)
write_soc-decides κs a x y s t = pinned

write_cell_voltage_range-decides : Decides write_cell_voltage_range.Post (λ κs r s. both r s.1.1.0.now)
write_cell_voltage_range-decides κs a x y s t = pinned

write_temperature_range-decides : Decides write_temperature_range.Post (λ κs r s. both r s.1.1.0.now)
write_temperature_range-decides κs a x y s t = pinned

write_mosfet_status-decides : Decides write_mosfet_status.Post (λ κs r s. both r s.1.1.0.now)
write_mosfet_status-decides κs a x y s t = pinned

write_status-decides : Decides write_status.Post (λ κs r s. both r s.1.1.0.now)
write_status-decides κs a x y s t = pinned

-- and here the second
write_set_discharge_mosfet-decides : Decides write_set_discharge_mosfet.Post (λ κs r s. both r s.1.0.now)
write_set_discharge_mosfet-decides κs a x y s t = pinned

write_set_charge_mosfet-decides : Decides write_set_charge_mosfet.Post (λ κs r s. both r s.1.0.now)
write_set_charge_mosfet-decides κs a x y s t = pinned

write_set_soc-decides : Decides write_set_soc.Post (λ κs r s. both r s.1.0.now)
write_set_soc-decides κs a x y s t = pinned
