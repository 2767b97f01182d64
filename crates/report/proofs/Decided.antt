-- The crate's contract allows one length and one exit of the lent buffer, the last parameter. Assumes nothing.
use Rattle.wire.proofs.Decides.{Decides, both}
use Rattle.text.proofs.Putting.{pinned}
use Rattle.report.proofs.report.Reads as report

report-decides : Decides report.Post (λ κs r s. both r s.1.1.1.1.1.0.now)
report-decides κs a x y s t = pinned
