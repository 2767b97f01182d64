use Rattle.reply.specs.Input.{state_of, pushed, from_first}
use Rattle.reply.proofs.Steps.{first-none}
use Rattle.reply.proofs.push.Goals as goal

pub returns-in-Stream-clause-frames_after : goal.returns-in-Stream-clause-frames_after
unfolding state_of pushed
returns-in-Stream-clause-frames_after c = rw c.in-Stream.is c.push_stream.ensures.frames_after

pub returns-in-Command-clause-frames_after : goal.returns-in-Command-clause-frames_after
unfolding state_of pushed
returns-in-Command-clause-frames_after c = rw c.in-Command.is c.push_count.ensures.frames_after

pub returns-in-None-clause-frames_after : goal.returns-in-None-clause-frames_after
unfolding state_of pushed from_first
returns-in-None-clause-frames_after c = rw c.in-Nothing.is (first-none _ c.in-None.ensures.cases)

pub returns-in-Some-clause-frames_after : goal.returns-in-Some-clause-frames_after
unfolding state_of pushed from_first
returns-in-Some-clause-frames_after c =
    rw (c.in-Nothing.is, c.in-Some.ensures.cases.0) c.push_count-in-Some.ensures.frames_after
