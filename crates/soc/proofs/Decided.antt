-- Each contract of the crate allows one answer. Assumes nothing.
use Rattle.wire.proofs.Decides.{Decides, same}
use Rattle.soc.proofs.SocCountsReply.decode.Reads as SocCounts-decode
use Rattle.soc.proofs.SocFromSocCounts.from.Reads as from
use Rattle.soc.proofs.SocReply.decode.Reads as Soc-decode

SocCounts-decode-decides : Decides SocCounts-decode.Post (λ κs r s. r)
SocCounts-decode-decides κs a x y s t = same

SocCounts-record-decides : Decides from.Post (λ κs r s. r)
SocCounts-record-decides κs a x y s t = same

Soc-decode-decides : Decides Soc-decode.Post (λ κs r s. r)
Soc-decode-decides κs a x y s t = same
