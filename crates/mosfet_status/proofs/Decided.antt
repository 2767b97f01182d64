-- Each contract of the crate allows one answer. Assumes nothing.
use Rattle.wire.proofs.Decides.{Decides, same}
use Rattle.mosfet_status.proofs.MosfetModeTryFromU8.try_from.Reads as mode
use Rattle.mosfet_status.proofs.U8FromMosfetMode.from.Reads as number
use Rattle.mosfet_status.proofs.MosfetStatusCountsReply.decode.Reads as MosfetStatusCounts-decode
use Rattle.mosfet_status.proofs.MosfetStatusFromMosfetStatusCounts.from.Reads as from
use Rattle.mosfet_status.proofs.MosfetStatusReply.decode.Reads as MosfetStatus-decode

MosfetMode-try_from-decides : Decides mode.Post (λ κs r s. r)
MosfetMode-try_from-decides κs a x y s t = same

MosfetMode-number-decides : Decides number.Post (λ κs r s. r)
MosfetMode-number-decides κs a x y s t = same

MosfetStatusCounts-decode-decides : Decides MosfetStatusCounts-decode.Post (λ κs r s. r)
MosfetStatusCounts-decode-decides κs a x y s t = same

MosfetStatusCounts-record-decides : Decides from.Post (λ κs r s. r)
MosfetStatusCounts-record-decides κs a x y s t = same

MosfetStatus-decode-decides : Decides MosfetStatus-decode.Post (λ κs r s. r)
MosfetStatus-decode-decides κs a x y s t = same
