use Prim.Native.Nat.{◌≤◌, ◌-◌}
use lib.ListN.{length}
use Rattle.reader.specs.View.{counted}
use Rattle.chunks.proofs.Cutting.{SoFar, turns_left}
use Rattle.chunks.proofs.daly_push_in_chunks.Given as goal

abbrev pub invariant-loop-more : goal.invariant-loop-more
invariant-loop-more l =
    SoFar l.initial.frames (counted l.initial.c l.initial.tally) l.stream l.at l.status l.took (counted l.c l.tally) l.frames l.more × (l.at ≤ length l.stream) × (l.took ≤ l.at)

abbrev pub decreases-loop-more : goal.decreases-loop-more
decreases-loop-more l = turns_left l.more (length l.stream - l.at)
