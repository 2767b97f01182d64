use mathlib.Core.Path.{refl, sym, ap, ◌∙◌}
use mathlib.Core.List.{◌++◌}
use native.Mathlib.Omega.{arith}
use lib.ListN.{drop}
use Rattle.std.proofs.lemmas.List.{length-take-le}
use Rattle.wire.specs.Lists.{firsts}
use Rattle.wire.proofs.Firsts.{length-firsts}
use Rattle.list.proofs.Decoding.{stored}
use Rattle.list.proofs.Filling.{front_filled}
use Rattle.flags.specs.Balance.{flag_at}
use Rattle.flags.proofs.Framed.{flags_framed}
use Rattle.flags.proofs.decode_cell_balance_state.Goals as goal

pub slice_bounds-store_flags-end : goal.slice_bounds-store_flags-end
slice_bounds-store_flags-end c = c.in_ok-frame.ensures.sound.room_for

pub slice_bounds-store_flags-end-2 : goal.slice_bounds-store_flags-end-2
slice_bounds-store_flags-end-2 c = sym (length-take-le _ _ c.in_ok-frame.ensures.sound.room_for)

pub store_flags-requires : goal.store_flags-requires
store_flags-requires c =
    omega (arith, length-take-le _ c.args.out.now c.in_ok-frame.ensures.sound.room_for, c.flag_count-count.ensures)

pub returns : goal.returns
returns c =
    let j = c.in_ok-frame.ensures.sound in
    let n = c.flag_count-count.result in
    let s = c.args.rx_buffer.now in
    let few = flags_framed s n (omega (arith, c.flag_count-count.ensures)) in
    let put = front_filled _ n c.args.out.now j.room_for c.store_flags.ensures ∙ ap (λ f. firsts (flag_at f) n) j.bytes ∙ few in
    rw (← c.flag_count-count.ensures)
    (stored n refl j.checked (length-firsts _ _) refl (ap (λ l. l ++ drop n c.args.out.now) put))
