use Rattle.reply.proofs.Cutting.{so_begun, so_next, so_printed}
use Rattle.readreply.proofs.read_all.Goals as goal

pub loop-init : goal.loop-init
loop-init c = rw c.begin-input.ensures (so_begun _)

pub loop-preserved : goal.loop-preserved
loop-preserved c = so_next _ _ _ _ _ _ c.loop.invariant c.push-input.ensures.frames_after

pub returns-then-n-eq0 : goal.returns-then-n-eq0
returns-then-n-eq0 c = so_printed _ _ _ c.loop.invariant

pub returns-after-loop : goal.returns-after-loop
returns-after-loop c = so_printed _ _ _ c.loop.invariant
