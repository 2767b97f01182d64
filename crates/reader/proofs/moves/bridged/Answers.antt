use Rattle.std.proofs.Common.{◌≡◌, ℕ, ◌-◌, ◌*◌, List, length, take, drop, ap, arith, length-append, length-take}
use Rattle.std.proofs.lemmas.List.{take_rest}
use Rattle.reader.specs.View.{config_of, front}
use Rattle.reader.proofs.Turns.{is_open}
use Rattle.reader.proofs.Parts.{length_front}
use Rattle.reader.proofs.Ways.{ran_short, within_short, moves-within, moves_across}
use Rattle.reader.proofs.moves.bridged.Goals as goal

pub hold_bridge-k-requires : goal.hold_bridge-k-requires
hold_bridge-k-requires c =
    let a = c.args in
    let pre = c.requires in
    let f : List ℕ = front a.held (drop (13 * a.collected) a.frames.now) in
    let lf : length f ≡ a.held = length_front a.held (drop (13 * a.collected) a.frames.now) in
    let e = c.bridge-m.ensures.0 in
    let lm = length-take c.bridge-m.result c.bridge-m.new.w in
    let u = within_short _ _ f a.chunk.now _ _ _ _
    (is_open (config_of a.asked) a.collected a.frames.now pre.1) (omega (arith, pre.0)) (rw e at c.scan-p.ensures) (omega (arith, c.if-p-held.true)) in (
      omega (arith, pre.0, c.if-p-held.true),
      omega (arith, c.scan-p.ensures.within, lm),
      omega (arith, ran_short _ _ _ _ _ _ _ _ c.scan-p.ensures u.0, lm),
      c.bridge-m.ensures.1,
      omega (arith, u.0, a.asked.few),
    )

pub returns-then-p-held : goal.returns-then-p-held
returns-then-p-held c =
    let a = c.args in
    let pre = c.requires in
    let f : List ℕ = front a.held (drop (13 * a.collected) a.frames.now) in
    let lf : length f ≡ a.held = length_front a.held (drop (13 * a.collected) a.frames.now) in
    let e = c.bridge-m.ensures.0 in
    moves-within _ _ f a.chunk.now _ _ _ _
    (is_open (config_of a.asked) a.collected a.frames.now pre.1) (omega (arith, pre.0)) (rw e at c.scan-p.ensures)
    c.hold_bridge-k.new.frames c.hold_bridge-k.result (omega (arith, c.if-p-held.true)) (rw e at c.hold_bridge-k.ensures.0) c.hold_bridge-k.ensures.1

pub slice_bounds-direct-count : goal.slice_bounds-direct-count
slice_bounds-direct-count c =
    let a = c.args in
    let f : List ℕ = front a.held (drop (13 * a.collected) a.frames.now) in
    omega (arith, c.scan-p.ensures.within, ap length c.bridge-m.ensures.0, length-append f (take 12 a.chunk.now), length-take 12 a.chunk.now, length_front a.held (drop (13 * a.collected) a.frames.now))

pub slice_bounds-direct-start : goal.slice_bounds-direct-start
slice_bounds-direct-start c =
    let a = c.args in
    let f : List ℕ = front a.held (drop (13 * a.collected) a.frames.now) in
    omega (arith, c.scan-p.ensures.within, ap length c.bridge-m.ensures.0, length-append f (take 12 a.chunk.now), length-take 12 a.chunk.now, length_front a.held (drop (13 * a.collected) a.frames.now))

pub returns : goal.returns
returns c =
    let a = c.args in
    let pre = c.requires in
    let f : List ℕ = front a.held (drop (13 * a.collected) a.frames.now) in
    let lf : length f ≡ a.held = length_front a.held (drop (13 * a.collected) a.frames.now) in
    let e = c.bridge-m.ensures.0 in
    let q = rw (take_rest a.chunk.now (c.scan-p.result.at - a.held)) at c.direct-q.ensures.0 in
    moves_across _ _ f a.chunk.now _ _ _ _
    (is_open (config_of a.asked) a.collected a.frames.now pre.1) (omega (arith, pre.0)) (rw e at c.scan-p.ensures)
    (c.scan-p.result.at - a.held) c.direct-q.new.frames _ c.direct-q.result (omega (arith, c.if-p-held.false)) q
