use Rattle.frame.proofs.Laws.{sound_long}
use Rattle.frame.proofs.reply.sound_frame.Goals as goal

pub unwrap-requires : goal.unwrap-requires
unwrap-requires c = c.first_chunk.ensures.variant.1 (sound_long _ _ c.reply_check.ensures c.in_ok-reply_check.was)
