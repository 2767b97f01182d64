use Rattle.std.proofs.Common.{replicate}
use Rattle.reader.proofs.FrameReader.new.Goals as goal

pub returns : goal.returns
returns c = λ i. record { number = (c.open_counts-number.ensures i).number; reader = record { counts = (c.open_counts-number.ensures i).counts; frames = replicate 1105 0 } }
