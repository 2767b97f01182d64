-- Each contract of the crate allows one answer. Assumes nothing.
use Rattle.wire.proofs.Decides.{Decides, same}
use Rattle.reading.proofs.reply_size.Reads as reply-size
use Rattle.reading.proofs.U8FromAcknowledged.from.Reads as command
use Rattle.reading.proofs.Acknowledged.decode.Reads as decode

reply_size-decides : Decides reply-size.Post (λ κs r s. r)
reply_size-decides κs a x y s t = same

Acknowledged-command-decides : Decides command.Post (λ κs r s. r)
Acknowledged-command-decides κs a x y s t = same

Acknowledged-decode-decides : Decides decode.Post (λ κs r s. r)
Acknowledged-decode-decides κs a x y s t = same
