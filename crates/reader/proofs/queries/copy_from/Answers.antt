use Rattle.std.proofs.Common.{◌≡◌, ◌*◌, ◌≤◌, length, sym, refl, ap, ◌∙◌, arith, length-take, length-take-le, rules}
use Rattle.std.specs.Prelude.{Err}
use Rattle.frame.specs.declared.refusal.Refusal.TheVariants.{NoRoom}
use Rattle.list.proofs.Decoding.{stored, refused}
use Rattle.reader.proofs.Parts.{paste_first}
use Rattle.reader.proofs.Asking.{of_whole, fits, copy-bad, copy-room, copy_sound, collected_bytes, copied}
use Rattle.reader.proofs.queries.copy_from.Goals as goal

pub returns-in_err-state_check : goal.returns-in_err-state_check
returns-in_err-state_check c =
    let a = c.args in
    let e = of_whole a.c a.frames.now _ c.into.result c.into.ensures (sym c.in_err-state_check.was ∙ c.state_check.ensures) in
    let at : c.from_residual.result ≡ Err c.in_err-state_check.field-0.0 = search rules in
    refused _ refl (copy-bad a.c a.frames.now _ e (length a.out.now)) at refl

pub overflow_mul-n : goal.overflow_mul-n
overflow_mul-n c =
    let a = c.args in
    let e = of_whole a.c a.frames.now _ c.into.result c.into.ensures (sym c.in_ok-state_check.was ∙ c.state_check.ensures) in
    let h = fits a.c a.frames.now _ e in record { fits = omega (arith, h.1, h.2) }

pub returns-then-out-n : goal.returns-then-out-n
returns-then-out-n c =
    let a = c.args in
    let e = of_whole a.c a.frames.now _ c.into.result c.into.ensures (sym c.in_ok-state_check.was ∙ c.state_check.ensures) in
    refused NoRoom refl (copy-room a.c a.frames.now _ e (length a.out.now) c.if-out-n.true) refl refl

pub shared_ref_as_front-put : goal.shared_ref_as_front-put
shared_ref_as_front-put c =
    let a = c.args in
    let e = of_whole a.c a.frames.now _ c.into.result c.into.ensures (sym c.in_ok-state_check.was ∙ c.state_check.ensures) in
    let h = fits a.c a.frames.now _ e in omega (arith, h.1, h.2, c.told-frames)

pub put-requires : goal.put-requires
put-requires c =
    let a = c.args in omega (arith, c.if-out-n.false, length-take (13 * a.c.collected) a.frames.now)

pub returns : goal.returns
returns c =
    let a = c.args in
    let f = a.frames.now in
    let e = of_whole a.c a.frames.now _ c.into.result c.into.ensures (sym c.in_ok-state_check.was ∙ c.state_check.ensures) in
    let h = fits a.c a.frames.now _ e in
    let bound : 13 * a.c.collected ≤ length f = omega (arith, h.1, h.2, c.told-frames) in
    stored (13 * a.c.collected) refl (copy_sound a.c f _ e (length a.out.now) c.if-out-n.false) (ap length (collected_bytes a.c f) ∙ length-take-le (13 * a.c.collected) f bound) refl
    (c.put.ensures ∙ paste_first a.out.now f 0 (13 * a.c.collected) bound ∙ copied a.c f a.out.now)
