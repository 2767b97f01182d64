use Rattle.std.proofs.Common.{rules, sym, ◌∙◌}
use Rattle.frame.specs.declared.refusal.Refusal.TheVariants.{RequestTooShort, UnknownCommand}
use Rattle.reply.specs.Input.{state_of, printed}
use Rattle.reply.specs.Output.{reported}
use Rattle.text.proofs.Putting.{put_as}
use Rattle.reply.proofs.Steps.{printed_short, refusal-few, reply-few}
use Rattle.reply.proofs.print.Goals as goal

pub returns-then-not-is_known : goal.returns-then-not-is_known
unfolding state_of printed reported
returns-then-not-is_known c =
    let p = c.put_refusal-then-not-is_known.ensures in
    record { put = rw (c.in-Stream.is, sym c.is_known.ensures ∙ c.if-not-is_known.true) p; upper_bound = refusal-few UnknownCommand _ _ _ p }

pub returns-in-Nothing : goal.returns-in-Nothing
returns-in-Nothing c =
    let p = c.put_refusal.ensures in
    record { put = put_as (printed_short c.args.input _ c.in-Nothing.is) p; upper_bound = refusal-few RequestTooShort _ _ _ p }

pub returns-else-not-is_known : goal.returns-else-not-is_known
unfolding state_of printed reported
returns-else-not-is_known c =
    let p = c.print_reply.ensures in
    record { put = rw (c.in-Stream.is, sym c.is_known.ensures ∙ c.if-not-is_known.false) p; upper_bound = reply-few _ _ _ _ _ (search rules) p }
