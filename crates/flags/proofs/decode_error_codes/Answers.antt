use mathlib.Core.Path.{◌≡◌, refl, sym, ap, ◌∙◌}
use Rattle.list.proofs.Decoding.{stored}
use Rattle.flags.specs.Faults.{faults}
use Rattle.flags.proofs.Noting.{noted_all}
use Rattle.flags.proofs.Framed.{faults_framed}
use Rattle.flags.proofs.decode_error_codes.Goals as goal

pub returns : goal.returns
returns c =
    let j = c.in_ok-frame.ensures.sound in
    let same : faults c.in_ok-frame.frame.now ≡ faults c.args.rx_buffer.now = ap faults j.bytes ∙ faults_framed c.args.rx_buffer.now in
    let n = noted_all (rw same at c.note_faults.ensures) j.room_for in
    stored _ refl j.checked (sym n.0) refl n.1
