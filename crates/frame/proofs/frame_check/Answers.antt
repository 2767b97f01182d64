use Rattle.std.proofs.Common.{arith}
use Rattle.frame.proofs.Laws.{sound_long}
use Rattle.frame.proofs.frame_check.Goals as goal

pub bounds-buffer-1 : goal.bounds-buffer-1
bounds-buffer-1 c = omega (arith, sound_long _ _ c.sound_check.ensures c.in_ok-sound_check.was)
