-- Each contract of the crate allows one answer. Assumes nothing.
use Rattle.wire.proofs.Decides.{Decides, same}
use Rattle.status.proofs.IOStateFromU8.from.Reads as states
use Rattle.status.proofs.StatusReply.decode.Reads as Status-decode

IOState-from-decides : Decides states.Post (λ κs r s. r)
IOState-from-decides κs a x y s t = same

Status-decode-decides : Decides Status-decode.Post (λ κs r s. r)
Status-decode-decides κs a x y s t = same
