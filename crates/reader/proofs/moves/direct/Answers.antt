use Rattle.std.proofs.Common.{ℕ, List, length, drop, sym, ◌∙◌, arith, length-drop}
use Rattle.reader.proofs.Noise.{all_passed}
use Rattle.std.proofs.lemmas.List.{take_rest}
use Rattle.reader.proofs.Parts.{held-rest}
use Rattle.reader.proofs.Ways.{ran_short, moves-complete, moves_open, moves-noise}
use Rattle.reader.proofs.moves.direct.Goals as goal

pub returns-then-is_noise : goal.returns-then-is_noise
returns-then-is_noise c =
    let a = c.args in (
      moves-noise _ a.chunk.now _ a.tally.now _ _ c.if-collected-asked.true (all_passed a.chunk.now (sym c.is_noise.ensures ∙ c.if-is_noise.true)) c.told-tally (rw c.place.ensures at c.add_count.ensures),
      omega arith,
    )

pub returns-then-asked-collected : goal.returns-then-asked-collected
returns-then-asked-collected c =
    let r = c.scan-at.ensures in (moves-complete _ _ _ _ _ _ _ _ r c.if-asked-collected.true, omega (arith, r.less, r.within))

pub hold-requires : goal.hold-requires
hold-requires c =
    let r = c.scan-at.ensures in
    let s : List ℕ = c.args.chunk.now in
    rw (take_rest s c.scan-at.result.at)
    (omega (arith, length-drop c.scan-at.result.at s, ran_short _ _ _ _ _ _ _ _ r c.if-asked-collected.false), omega (arith, c.if-asked-collected.false, c.args.asked.few))

pub returns : goal.returns
returns c =
    let r = c.scan-at.ensures in
    let s : List ℕ = c.args.chunk.now in
    let h = rw (take_rest s c.scan-at.result.at) at c.hold.ensures in
    rw (take_rest s c.scan-at.result.at) (
      moves_open _ _ _ _ _ _ _ _ r s c.hold.new.frames (length (drop c.scan-at.result.at s)) c.if-asked-collected.false (held-rest c.scan-at.new.frames c.hold.new.frames (drop c.scan-at.result.at s) c.scan-at.result.collected h.0) h.1,
      omega (arith, r.less, r.within),
    )
