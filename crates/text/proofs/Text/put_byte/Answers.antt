use Rattle.std.proofs.Common.{rules, ap}
use Rattle.text.specs.declared.Text.{Text}
use Rattle.text.specs.Text.{place}
use Rattle.text.proofs.Pieces.{puts_in, puts_past}
use Rattle.text.proofs.Text.put_byte.Goals as goal
use Rattle.text.proofs.Text.put_byte.Goals.{then-self, else-self}

pub returns : goal.returns
unfolding place
returns c = elim c.if-self.branch [
  | then-self w ↦ puts_in (search rules) w.if-self.true (ap (λ (x : Text). x.out.ghost_name) w.self-is) (ap (λ (x : Text). x.out.now) w.self-is)
      (ap (λ (x : Text). x.at) w.self-is) c.saturating_add-self.ensures
  | else-self w ↦ puts_past (search rules) w.if-self.false w.self-is c.saturating_add-self.ensures
]
