-- Each contract of the crate allows one answer. Assumes nothing.
use Rattle.wire.proofs.Decides.{Decides, same}
use Rattle.temperature_range.proofs.TemperatureRangeReply.decode.Reads as TemperatureRange-decode

TemperatureRange-decode-decides : Decides TemperatureRange-decode.Post (λ κs r s. r)
TemperatureRange-decode-decides κs a x y s t = same
