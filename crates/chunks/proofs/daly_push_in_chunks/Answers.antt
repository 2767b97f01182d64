use Prim.Native.Nat.{◌+◌, ◌-◌}
use native.Mathlib.Omega.{arith}
use mathlib.Core.Path.{◌≡◌}
use mathlib.Core.Path.{refl}
use mathlib.Core.Logic.{inl, inr}
use lib.ListN.{drop, length-take}
use Rattle.reader.proofs.Promise.{answered-took}
use Rattle.chunks.proofs.Cutting.{so_next, so_all, fewer}
use Rattle.chunks.proofs.daly_push_in_chunks.Goals as goal

pub loop-more-init : goal.loop-more-init
loop-more-init c = (inl (refl, refl, refl, refl, refl), omega arith, omega arith)

pub overflow_add-took : goal.overflow_add-took
overflow_add-took c =
    let n = c.chunk_size-n in
    let l = c.loop-more in
    let s = c.args.stream.now in
    let t = answered-took _ _ _ _ _ _ _ c.push_into-t.ensures in
    record { fits = omega (arith, t, n.ensures.0, l.invariant.1, l.invariant.2, length-take (l.at + n.result - l.at) (drop l.at s), c.well_formed.1.1.0.1) }

pub overflow_add-at-in-loop-more : goal.overflow_add-at-in-loop-more
overflow_add-at-in-loop-more c =
    let n = c.chunk_size-n in
    let l = c.loop-more in
    let s = c.args.stream.now in
    record { fits = omega (arith, n.ensures.0, l.invariant.1, c.well_formed.1.1.0.1) }

pub loop-more-smaller : goal.loop-more-smaller
loop-more-smaller c =
    let n = c.chunk_size-n in
    let l = c.loop-more in
    let s = c.args.stream.now in
    rw c.loop-more-test.true (fewer s l.at n.result l.invariant.1 n.ensures.0 n.ensures.1)

pub loop-more-preserved : goal.loop-more-preserved
loop-more-preserved c =
    let n = c.chunk_size-n in
    let l = c.loop-more in
    let s = c.args.stream.now in
    let e : l.at + n.result - l.at ≡ n.result = omega arith in
    let a = rw e at c.push_into-t.ensures in
    let t = answered-took _ _ _ _ _ _ _ a in (
      inr (so_next _ _ s l.at n.result _ _ _ _ _ _ _ _ _ l.invariant.0 a, refl),
      omega (arith, n.ensures.0, l.invariant.1),
      omega (arith, t, l.invariant.2, length-take n.result (drop l.at s)),
    )

pub returns : goal.returns
returns c =
    let l = c.loop-more in
    let h = so_all _ _ c.args.stream.now l.at _ _ _ _ _ l.invariant.0 c.loop-more-test.false in
    rw c.counted.ensures (rw c.from-c.ensures at h)
