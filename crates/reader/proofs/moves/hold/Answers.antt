use Rattle.std.proofs.Common.{arith}
use Rattle.reader.proofs.Parts.{held_more}
use Rattle.reader.proofs.moves.hold.Goals as goal

pub returns : goal.returns
returns c =
    let a = c.args in
    rw c.put.ensures (held_more a.frames.now a.more.now a.collected a.held (omega (arith, c.told-frames)) (c.requires.0))
