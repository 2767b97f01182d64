-- What C is told of the frame check: the number, and which of the two sound kinds. Definitions only.
use Rattle.std.specs.Prelude.{Bool, true, false, Result, Ok, Err}
use Rattle.frame.specs.declared.refusal.Refusal.{Refusal}
use Rattle.frame.specs.Refusals.{answer_number}
use Rattle.frame.specs.declared.FrameKind.{FrameKind}
use Rattle.frame.specs.declared.FrameKind.TheVariants.{FromBoard, Echo}
use Rattle.daly.specs.declared.FrameKindTold.{FrameKindTold}

-- "a sound frame with address 40": no unsound frame is one
abbrev pub is_echo : Result FrameKind Refusal → Bool
is_echo (Ok FromBoard) = false
is_echo (Ok Echo) = true
is_echo (Err r) = false

abbrev pub frame_kind_told : Result FrameKind Refusal → FrameKindTold
frame_kind_told k = record { number = answer_number k; echo = is_echo k }
