use Rattle.std.proofs.Common.{◌≡◌, ◌+◌, ◌-◌, ◌*◌, drop, ◌∙◌, arith, length-drop}
use lib.Seq.{paste}
use Rattle.reader.proofs.Parts.{held-bridge, paste_first}
use Rattle.reader.proofs.moves.hold_bridge.Goals as goal

pub returns : goal.returns
returns c =
    let a = c.args in
    let n : a.at + 12 - a.at ≡ 12 = omega arith in
    let e : c.put.new.to ≡ paste a.frames.now (13 * a.collected) (drop a.at a.w.now) 12 =
    rw n at c.put.ensures ∙ paste_first a.frames.now (drop a.at a.w.now) (13 * a.collected) 12 (omega (arith, c.told-w, c.requires.0, length-drop a.at a.w.now)) in
    rw e
    (held-bridge a.frames.now a.w.now a.collected a.at a.m (omega (arith, c.told-frames, c.requires.4)) (omega (arith, c.told-w, c.requires.0)) c.requires.1 c.requires.2)
