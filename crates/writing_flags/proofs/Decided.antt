-- Each contract of the crate allows one answer, and one exit of the lent places. Assumes nothing.
use Rattle.wire.proofs.Decides.{Decides, both}
use Rattle.list.proofs.Decoding.{pinned}
use Rattle.writing_flags.proofs.write_cell_balance_state.Reads as write_cell_balance_state
use Rattle.writing_flags.proofs.write_error_codes.Reads as write_error_codes

-- the answer, and the lent places (the third parameter) at exit
write_cell_balance_state-decides : Decides write_cell_balance_state.Post (λ κs r s. both r s.1.1.0.now)
write_cell_balance_state-decides κs a x y s t = pinned

write_error_codes-decides : Decides write_error_codes.Post (λ κs r s. both r s.1.1.0.now)
write_error_codes-decides κs a x y s t = pinned
