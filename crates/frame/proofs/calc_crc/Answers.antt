use Rattle.std.proofs.Common.{◌∙◌, sym}
use Rattle.frame.specs.Frame.{total, sum}
use Rattle.frame.specs.Checks.{sum_of}
use Rattle.frame.proofs.Laws.{sum_of-last}
use Rattle.frame.proofs.calc_crc.Goals as goal

pub returns-then-buffer-eq-FRAME_LENGTH : goal.returns-then-buffer-eq-FRAME_LENGTH
unfolding sum_of
returns-then-buffer-eq-FRAME_LENGTH c = rw c.if-buffer-eq-FRAME_LENGTH.true c.sum.ensures

pub returns-in-None : goal.returns-in-None
unfolding sum_of sum total
returns-in-None c = rw c.in-None.ensures.cases

pub returns-in-Some : goal.returns-in-Some
returns-in-Some c = c.sum-in-Some.ensures ∙ sym (sum_of-last _ _ c.in-Some.ensures.cases.0)
