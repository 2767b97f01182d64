use Rattle.std.proofs.Common.{ℕ, eqb, ap, ◌∙◌}
use Rattle.wire.specs.Bytes.{byte_at}
use Rattle.reader.proofs.Judge.{sums}
use Rattle.reader.proofs.scan.is_summed.Goals as goal

pub returns : goal.returns
returns c =
    let w = c.args.frame.now in ap (λ (x : ℕ). eqb (byte_at w 12) x) c.calc_crc.ensures ∙ sums w c.told-frame
