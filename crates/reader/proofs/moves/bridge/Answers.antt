use Rattle.std.proofs.Common.{◌≡◌, ℕ, ◌+◌, ◌-◌, ◌*◌, ◌≤◌, List, length, drop, ap, ◌∙◌, arith, length-drop}
use lib.Seq.{paste}
use Rattle.reader.proofs.Parts.{bridged-bytes, paste_first}
use Rattle.reader.proofs.moves.bridge.Goals as goal

pub returns : goal.returns
returns c =
    let a = c.args in
    let m : ℕ = c.min-m.result in
    let w : List ℕ = a.w.now in
    let f : List ℕ = drop (13 * a.collected) a.frames.now in
    let lf : 12 ≤ length f = omega (arith, length-drop (13 * a.collected) a.frames.now, c.told-frames, c.requires.1) in
    let n : 13 * a.collected + 12 - 13 * a.collected ≡ 12 = omega arith in
    let one : c.put.new.to ≡ paste w 0 f 12 = rw n at c.put.ensures ∙ paste_first w f 0 12 lf in
    let le : m ≤ length a.chunk.now = omega (arith, c.min-m.ensures) in
    let two : c.put-2.new.to ≡ paste (paste w 0 f 12) a.held a.chunk.now m =
    c.put-2.ensures ∙ paste_first c.put.new.to a.chunk.now a.held m le ∙ ap (λ (l : List ℕ). paste l a.held a.chunk.now m) one in (
      rw two (bridged-bytes w f a.chunk.now a.held m c.requires.0 lf (omega (arith, c.told-w)) (omega (arith, c.min-m.ensures)) le (λ h. omega (arith, c.min-m.ensures))),
      omega (arith, c.min-m.ensures),
    )
