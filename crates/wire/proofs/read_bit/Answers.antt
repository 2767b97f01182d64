use Rattle.std.proofs.Common.{◌≡◌, ◌/◌, ◌^◌, le-ltb}
use native.Mathlib.Nat.{div-eq_of_lt, lt_of_lt_of_le}
use lib.Pow.{pow_mono}
use Rattle.wire.proofs.read_bit.Goals as goal

pub returns-else-position-lt8 : goal.returns-else-position-lt8
returns-else-position-lt8 c =
    let a = c.args in
    let none : a.byte / 2 ^ a.position ≡ 0 = div-eq_of_lt (lt_of_lt_of_le c.ranges.byte.fits (pow_mono c.if-position-lt8.false)) in
    rw (none, le-ltb _ _ c.if-position-lt8.false)
