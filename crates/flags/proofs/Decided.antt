-- Each contract of the crate allows one answer, and one exit of the lent places. Assumes nothing.
use Rattle.wire.proofs.Decides.{Decides, both}
use Rattle.list.proofs.Decoding.{pinned}
use Rattle.flags.proofs.decode_cell_balance_state.Reads as decode_cell_balance_state
use Rattle.flags.proofs.decode_error_codes.Reads as decode_error_codes

-- the answer, and the lent places (the third parameter) at exit
decode_cell_balance_state-decides : Decides decode_cell_balance_state.Post (λ κs r s. both r s.1.1.0.now)
decode_cell_balance_state-decides κs a x y s t = pinned

-- here the second parameter
decode_error_codes-decides : Decides decode_error_codes.Post (λ κs r s. both r s.1.0.now)
decode_error_codes-decides κs a x y s t = pinned
