use Rattle.std.proofs.Common.{le-ltb, lt-ltb}
use Rattle.rules.specs.Rules.{restarts}
use Rattle.reader.proofs.asked.Asked.restarts.Goals as goal

pub returns-then-self-gt1 : goal.returns-then-self-gt1
unfolding restarts
returns-then-self-gt1 c = rw (lt-ltb 1 c.args.self.wanted c.if-self-gt1.true)

pub returns-else-self-gt1 : goal.returns-else-self-gt1
unfolding restarts
returns-else-self-gt1 c = rw (le-ltb 1 c.args.self.wanted c.if-self-gt1.false)
