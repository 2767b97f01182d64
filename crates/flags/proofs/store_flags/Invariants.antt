use lib.ListN.{length}
use Rattle.flags.specs.Balance.{flag_at}
use Rattle.list.proofs.Filling.{Filled}
use Rattle.flags.proofs.store_flags.Given as goal

abbrev pub invariant-loop-i : goal.invariant-loop-i
invariant-loop-i l = Filled (flag_at l.frame) (length l.initial.out) l.initial.out 0 l.out l.i
