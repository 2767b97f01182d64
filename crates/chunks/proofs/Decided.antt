-- The contract allows one answer, but for places of the array that no one sees. Assumes nothing.
use Rattle.wire.proofs.Decides.{Decides, both}
use Rattle.reader.proofs.Promise.{shown, told_once}
use Rattle.chunks.proofs.daly_push_in_chunks.Reads as daly_push_in_chunks

daly_push_in_chunks-decides : Decides daly_push_in_chunks.Post (λ κs r s. both r (shown r.said.status r.counts s.0.now))
daly_push_in_chunks-decides κs a x y s t = told_once
