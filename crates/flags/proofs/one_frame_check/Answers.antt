use borrow.Author.Tests.{lt-ltb, le-ltb}
use Rattle.list.specs.Listed.{gate}
use Rattle.flags.proofs.Framed.{roomy, refused_on}
use Rattle.flags.proofs.one_frame_check.Goals as goal

pub returns-then-reply-lt-FRAME_LENGTH-clause-refused : goal.returns-then-reply-lt-FRAME_LENGTH-clause-refused
unfolding gate
returns-then-reply-lt-FRAME_LENGTH-clause-refused c = simp (lt-ltb _ _ c.if-reply-lt-FRAME_LENGTH.true)

pub returns-then-room-places-clause-refused : goal.returns-then-room-places-clause-refused
unfolding gate
returns-then-room-places-clause-refused c = simp (le-ltb _ _ c.if-reply-lt-FRAME_LENGTH.false, lt-ltb _ _ c.if-room-places.true)

pub returns-clause-sound : goal.returns-clause-sound
returns-clause-sound c = roomy _ _ _ _ c.if-reply-lt-FRAME_LENGTH.false c.if-room-places.false _ c.sound_frame.ensures.sound

pub returns-clause-refused : goal.returns-clause-refused
returns-clause-refused c = refused_on _ _ _ _ c.if-reply-lt-FRAME_LENGTH.false c.if-room-places.false _ c.sound_frame.ensures.refused
