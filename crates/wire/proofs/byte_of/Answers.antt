use Prim.Native.Nat.{◌≤◌, ◌+◌, min}
use native.Mathlib.Omega.{arith}
use mathlib.Core.Bool.{Bool, false}
use mathlib.Core.List.{List}
use mathlib.Core.Path.{◌≡◌, sym, ap, ◌∙◌}
use lib.ListN.{length, get_or, drop_of_length-le}
use Rattle.wire.specs.Bytes.{flag_byte, packed}
use Rattle.wire.proofs.Firsts.{length-firsts}
use Rattle.wire.proofs.Packing.{flag_small, packed_more, packed-room}
use Rattle.wire.proofs.byte_of.Invariants.{chosen}
use Rattle.wire.proofs.byte_of.Goals as goal

pub loop-k-init : goal.loop-k-init
loop-k-init c =
    let a = c.args in
    let l : List Bool = chosen a.flags.now a.from a.n in
    let e = c.min-k.ensures in
    let m : length l ≤ c.min-k.result = omega (arith, e, length-firsts (λ j. get_or a.flags.now (a.from + j) false) (min a.n 8)) in
    (omega (arith, e), sym (ap packed (drop_of_length-le l m)))

pub overflow_mul-byte : goal.overflow_mul-byte
overflow_mul-byte c =
    let a = c.args in
    let l = c.loop-k in
    omega (arith, l.invariant.1, packed-room a.flags.now a.from (min a.n 8) l.k (omega arith) c.loop-k-test.true)

pub overflow_add-byte : goal.overflow_add-byte
overflow_add-byte c =
    let a = c.args in
    let l = c.loop-k in
    omega (arith, l.invariant.1, packed-room a.flags.now a.from (min a.n 8) l.k (omega arith) c.loop-k-test.true, c.flag_byte.ensures, flag_small c.flag_at.result)

pub loop-k-preserved : goal.loop-k-preserved
loop-k-preserved c =
    let a = c.args in
    let l = c.loop-k in (
      omega (arith, l.invariant.0),
      packed_more a.flags.now a.from (min a.n 8) l.k c.loop-k-test.true l.invariant.0 l.invariant.1 (c.flag_byte.ensures ∙ ap flag_byte c.flag_at.ensures),
    )

pub returns : goal.returns
returns c = let e : c.loop-k.k ≡ 0 = omega (arith, c.loop-k-test.false) in rw e at c.loop-k.invariant.1
