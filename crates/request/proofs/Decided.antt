-- Each contract of the crate allows one answer. Assumes nothing.
use Rattle.wire.proofs.Decides.{Decides, same}
use Rattle.request.proofs.U8FromQuery.from.Reads as command
use Rattle.request.proofs.QueryTryFromU8.try_from.Reads as query
use Rattle.request.proofs.Query.request.Reads as request
use Rattle.request.proofs.set_mosfet.Reads as set_mosfet
use Rattle.request.proofs.set_soc.Reads as set_soc

Query-command-decides : Decides command.Post (λ κs r s. r)
Query-command-decides κs a x y s t = same

Query-try_from-decides : Decides query.Post (λ κs r s. r)
Query-try_from-decides κs a x y s t = same

Query-request-decides : Decides request.Post (λ κs r s. r)
Query-request-decides κs a x y s t = same

set_mosfet-decides : Decides set_mosfet.Post (λ κs r s. r)
set_mosfet-decides κs a x y s t = same

set_soc-decides : Decides set_soc.Post (λ κs r s. r)
set_soc-decides κs a x y s t = same
