-- Each contract of the crate allows one answer. Assumes nothing.
use Rattle.wire.proofs.Decides.{Decides, same}
use Rattle.cell_voltage_range.proofs.CellVoltageRangeCountsReply.decode.Reads as CellVoltageRangeCounts-decode
use Rattle.cell_voltage_range.proofs.CellVoltageRangeFromCellVoltageRangeCounts.from.Reads as from
use Rattle.cell_voltage_range.proofs.CellVoltageRangeReply.decode.Reads as CellVoltageRange-decode

CellVoltageRangeCounts-decode-decides : Decides CellVoltageRangeCounts-decode.Post (λ κs r s. r)
CellVoltageRangeCounts-decode-decides κs a x y s t = same

CellVoltageRangeCounts-record-decides : Decides from.Post (λ κs r s. r)
CellVoltageRangeCounts-record-decides κs a x y s t = same

CellVoltageRange-decode-decides : Decides CellVoltageRange-decode.Post (λ κs r s. r)
CellVoltageRange-decode-decides κs a x y s t = same
