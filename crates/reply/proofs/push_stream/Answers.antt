use Rattle.std.proofs.Common.{rules, sym, ◌∙◌}
use Rattle.reply.specs.Input.{state_of}
use Rattle.reply.proofs.Steps.{streamed_unknown, streamed-told}
use Rattle.reply.proofs.push_stream.Goals as goal

pub returns-then-not-is_known : goal.returns-then-not-is_known
unfolding state_of
returns-then-not-is_known c = record { frames_after = streamed_unknown _ _ _ _ (sym c.is_known.ensures ∙ c.if-not-is_known.true); tally_len = search rules }

pub returns : goal.returns
unfolding state_of
returns c =
    record { frames_after = streamed-told c.args.asked _ _ _ _ _ _ (sym c.is_known.ensures ∙ c.if-not-is_known.false) c.push_counts-told.ensures; tally_len = c.push_counts-told.ensures.seven }
