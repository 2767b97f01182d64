use Rattle.reply.specs.Input.{state_of, from_second}
use Rattle.reply.proofs.Steps.{second-none}
use Rattle.reader.proofs.Promise.{view-fresh}
use Rattle.reply.proofs.push_count.Goals as goal

pub returns-in_default-clause-frames_after : goal.returns-in_default-clause-frames_after
unfolding state_of
returns-in_default-clause-frames_after c = second-none c.args.command _ c.in_default.ensures.cases

pub returns-clause-frames_after : goal.returns-clause-frames_after
unfolding from_second
returns-clause-frames_after c =
    rw c.in-Some.ensures.cases.0 (rw (c.fresh-counts.ensures, view-fresh) at c.push_stream.ensures.frames_after)
