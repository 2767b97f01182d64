use mathlib.Core.Path.{◌≡◌}
use Prim.Native.Nat.{◌-◌, ◌≤◌}
use lib.ListN.{length}
use Rattle.flags.specs.Faults.{run, faults_by}
use Rattle.flags.specs.Noted.{Noted}
use Rattle.flags.proofs.note.Given as goal

abbrev pub invariant-loop-i : goal.invariant-loop-i
invariant-loop-i l =
    (l.i ≤ l.count) × (length l.out ≡ length l.initial.out) × Noted l.initial.out l.at l.i (faults_by l.frame (run l.byte l.place l.position l.i)) l.out l.next

abbrev pub decreases-loop-i : goal.decreases-loop-i
decreases-loop-i l = l.count - l.i
