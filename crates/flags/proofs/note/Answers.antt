use mathlib.Core.Path.{◌≡◌}
use Prim.Native.Nat.{ℕ, ◌+◌}
use native.Mathlib.Omega.{arith}
use Rattle.flags.specs.Faults.{Test, test}
use Rattle.flags.proofs.Noting.{noted_none, noted_hit, noted_miss, noted_long}
use borrow.Author.Rules.{rules}
use Rattle.flags.proofs.note.Goals as goal
use Rattle.flags.proofs.note.Goals.{then-read_bit, else-read_bit}

pub loop-i-init : goal.loop-i-init
loop-i-init c = (search rules, search rules, noted_none _ _)

pub loop-i-preserved : goal.loop-i-preserved
loop-i-preserved c =
    let a = c.args in
    let f : ℕ → Test = λ k. test a.byte (a.place + k) (a.position + k) in
    let inv = c.loop-i.invariant.2 in
    let r = c.read_bit.ensures in
    elim c.if-read_bit.branch [
      | then-read_bit w ↦ let h = noted_hit a.frame.now f inv r w.if-read_bit.true w.out-is w.next-is in (search rules, noted_long h, h)
      | else-read_bit w ↦ let h = noted_miss a.frame.now f inv r w.if-read_bit.false w.out-is w.next-is in (search rules, noted_long h, h)
    ]

pub returns : goal.returns
returns c =
    let a = c.args in
    let e : c.loop-i.i ≡ a.count = omega arith in
    rw e at c.loop-i.invariant.2
