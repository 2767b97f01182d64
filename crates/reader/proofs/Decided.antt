-- Each contract of the crate allows one answer, and one exit of the lent places; of a push, all but the places of the array
-- behind the bytes held, which no one sees (`view`). Assumes nothing.
use Rattle.std.proofs.Common.{ℕ, List}
use Rattle.wire.proofs.Decides.{Decides, same, both}
use Rattle.list.proofs.Decoding.{pinned}
use Rattle.reader.proofs.Promise.{told, shown, told_once, pushed_once}
use Rattle.reader.proofs.Turning.{turned_into_once}
use Rattle.reader.specs.View.{counted}
use Rattle.reader.specs.declared.pushing.Went.{Went}
use Rattle.reader.specs.declared.pushing.Told.{Told}
use Rattle.reader.proofs.pushing.push_into.Reads as push_into
use Rattle.reader.proofs.pushing.push_counts.Reads as push_counts
use Rattle.reader.proofs.pushing.turn_into.Reads as turn_into
use Rattle.reader.proofs.tally.discarded_in.Reads as discarded-in
use Rattle.reader.proofs.tally.Discarded.all.Reads as Discarded-all
use Rattle.reader.proofs.queries.missing_of.Reads as missing_of
use Rattle.reader.proofs.queries.completed_of.Reads as completed_of
use Rattle.reader.proofs.queries.copy_from.Reads as copy_from
use Rattle.reader.proofs.fresh.open_counts.Reads as open_counts
use Rattle.reader.proofs.fresh.fresh_counts.Reads as fresh_counts
use Rattle.reader.proofs.StandingFromCounts.from.Reads as Standing-from
use Rattle.reader.proofs.Standing.counted.Reads as Standing-counted
use Rattle.reader.proofs.FrameReader.new.Reads as FrameReader-new
use Rattle.reader.proofs.FrameReader.push.Reads as FrameReader-push
use Rattle.reader.proofs.FrameReader.missing.Reads as FrameReader-missing
use Rattle.reader.proofs.FrameReader.is_complete.Reads as FrameReader-is_complete
use Rattle.reader.proofs.FrameReader.copy_out.Reads as FrameReader-copy_out

-- the answer with the tally that it leaves
abbrev told_of : Went → List ℕ → Told
told_of r t = record { said = r.said; counts = counted r.standing t }

push_into-decides : Decides push_into.Post (λ κs r s. both (told_of r s.1.0.now) (shown r.said.status (counted r.standing s.1.0.now) s.0.now))
push_into-decides κs a x y s t = told_once {x = told_of x s.1.0.now} {y = told_of y t.1.0.now}

push_counts-decides : Decides push_counts.Post (λ κs r s. both r (shown r.said.status r.counts s.0.now))
push_counts-decides κs a x y s t = told_once

turn_into-decides : Decides turn_into.Post (λ κs r s. both r.turn (both (counted r.standing s.1.0.now) (shown r.turn.status (counted r.standing s.1.0.now) s.0.now)))
turn_into-decides κs a x y s t = turned_into_once

discarded_in-decides : Decides discarded-in.Post (λ κs r s. r)
discarded_in-decides κs a x y s t = same

Discarded-all-decides : Decides Discarded-all.Post (λ κs r s. r)
Discarded-all-decides κs a x y s t = same

missing_of-decides : Decides missing_of.Post (λ κs r s. r)
missing_of-decides κs a x y s t = same

completed_of-decides : Decides completed_of.Post (λ κs r s. r)
completed_of-decides κs a x y s t = same

copy_from-decides : Decides copy_from.Post (λ κs r s. both r s.1.1.0.now)
copy_from-decides κs a x y s t = pinned

fresh_counts-decides : Decides fresh_counts.Post (λ κs r s. r)
fresh_counts-decides κs a x y s t = same

Standing-from-decides : Decides Standing-from.Post (λ κs r s. r)
Standing-from-decides κs a x y s t = same

Standing-counted-decides : Decides Standing-counted.Post (λ κs r s. r)
Standing-counted-decides κs a x y s t = same

open_counts-decides : Decides open_counts.Post (λ κs r s. r)
open_counts-decides κs a x y s t = same

FrameReader-new-decides : Decides FrameReader-new.Post (λ κs r s. r)
FrameReader-new-decides κs a x y s t = same

FrameReader-push-decides : Decides FrameReader-push.Post (λ κs r s. both (told r) (shown r.said.status r.reader.counts r.reader.frames))
FrameReader-push-decides κs a x y s t = pushed_once

FrameReader-missing-decides : Decides FrameReader-missing.Post (λ κs r s. r)
FrameReader-missing-decides κs a x y s t = same

FrameReader-is_complete-decides : Decides FrameReader-is_complete.Post (λ κs r s. r)
FrameReader-is_complete-decides κs a x y s t = same

FrameReader-copy_out-decides : Decides FrameReader-copy_out.Post (λ κs r s. both r s.1.0.now)
FrameReader-copy_out-decides κs a x y s t = pinned
