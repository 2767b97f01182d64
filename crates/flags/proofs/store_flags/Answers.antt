use mathlib.Core.Path.{refl}
use Rattle.list.proofs.Filling.{filled_none, filled_more, filled_whole}
use borrow.Author.Rules.{rules}
use Rattle.flags.proofs.store_flags.Goals as goal

pub loop-i-init : goal.loop-i-init
loop-i-init c = filled_none

pub loop-i-preserved : goal.loop-i-preserved
loop-i-preserved c = filled_more c.loop-i.invariant (search rules) (search rules) c.read_bit.ensures refl refl

pub returns : goal.returns
returns c = filled_whole refl c.loop-i.invariant (search rules)
