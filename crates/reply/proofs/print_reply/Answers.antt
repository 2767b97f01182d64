use Rattle.std.proofs.Common.{rules}
use Rattle.text.proofs.Putting.{put_as}
use Rattle.reply.proofs.Steps.{reply-text}
use Rattle.reply.proofs.print_reply.Goals as goal

pub returns : goal.returns
returns c =
    let a = c.args.asked in
    put_as (reply-text a c.args.frames.now _ _ _ (search rules) c.collected_bytes.ensures c.tally_of.ensures c.status_of.ensures) c.report.ensures
