use Rattle.std.proofs.Common.{◌+◌, ◌*◌, ◌<◌, ◌≤◌, length, drop, arith}
use Rattle.reader.specs.View.{config_of}
use Rattle.reader.proofs.Answer.{none-held, moves_append}
use Rattle.reader.proofs.moves.advance.Goals as goal

pub returns-then-held-eq0 : goal.returns-then-held-eq0
returns-then-held-eq0 c =
    let a = c.args in
    rw (none-held a.held (drop (13 * a.collected) a.frames.now) a.chunk.now c.if-held-eq0.true) c.direct.ensures.0

pub hold-requires : goal.hold-requires
hold-requires c =
    let z = c.requires.1 (omega (arith, c.if-held-eq0.false)) in
    (omega (arith, c.if-chunk-held.true), omega (arith, z, c.args.asked.few))

pub returns-then-chunk-held : goal.returns-then-chunk-held
returns-then-chunk-held c =
    let a = c.args in
    let z : 0 < a.held = omega (arith, c.if-held-eq0.false) in
    let b : a.held + length a.chunk.now ≤ 12 = omega (arith, c.if-chunk-held.true) in
    moves_append (config_of a.asked) a.collected a.tally.now a.frames.now c.hold.new.frames a.chunk.now
    a.held (a.held + length a.chunk.now) c.told-tally (c.requires.1 z) z b (c.requires.2 z) c.hold.ensures.0 c.hold.ensures.1

pub bridged-requires : goal.bridged-requires
bridged-requires c = (c.requires.0, c.requires.1 (omega (arith, c.if-held-eq0.false)))

pub returns : goal.returns
returns c = c.bridged.ensures
