use Rattle.reply.proofs.Cutting.{SoFar}
use Rattle.readreply.proofs.read_all.Given as goal

abbrev pub invariant-loop : goal.invariant-loop
invariant-loop l = SoFar l.fn.frames l.input l.frames
