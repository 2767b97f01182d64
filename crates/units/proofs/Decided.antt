-- Each contract of the crate allows one answer. Assumes nothing.
use Rattle.wire.proofs.Decides.{Decides, same}
use Rattle.units.proofs.tenths_u16.Reads as tenths_u16
use Rattle.units.proofs.thousandths_u16.Reads as thousandths_u16
use Rattle.units.proofs.current_count.Reads as current-count
use Rattle.units.proofs.tenths_i32.Reads as tenths_i32
use Rattle.units.proofs.nearest_f32.Reads as nearest_f32
use Rattle.units.proofs.thousandths_u32.Reads as thousandths_u32
use Rattle.units.proofs.sent_count.Reads as sent_count
use Rattle.units.proofs.set_soc_count.Reads as set-soc-count

tenths_u16-decides : Decides tenths_u16.Post (λ κs r s. r)
tenths_u16-decides κs a x y s t = same

thousandths_u16-decides : Decides thousandths_u16.Post (λ κs r s. r)
thousandths_u16-decides κs a x y s t = same

current_count-decides : Decides current-count.Post (λ κs r s. r)
current_count-decides κs a x y s t = same

tenths_i32-decides : Decides tenths_i32.Post (λ κs r s. r)
tenths_i32-decides κs a x y s t = same

nearest_f32-decides : Decides nearest_f32.Post (λ κs r s. r)
nearest_f32-decides κs a x y s t = same

thousandths_u32-decides : Decides thousandths_u32.Post (λ κs r s. r)
thousandths_u32-decides κs a x y s t = same

sent_count-decides : Decides sent_count.Post (λ κs r s. r)
sent_count-decides κs a x y s t = same

set_soc_count-decides : Decides set-soc-count.Post (λ κs r s. r)
set_soc_count-decides κs a x y s t = same
