-- A text that is put into a lent buffer, at its place. Definitions only.
use Rattle.std.specs.Prelude.{ℕ, ◌≡◌, ◌<◌, ◌^◌, List, length}
use Rattle.text.specs.declared.Text.{Text}
use Rattle.text.specs.Text.{Put}

-- of t, whose buffer is one of a machine, u is left: the same lent buffer, and in it the text from t's place on
pub record Puts (t : Text) (text : List ℕ) (u : Text) : Type 0 where
  pub same : u.out.ghost_name ≡ t.out.ghost_name
  pub short : length t.out.now < 2 ^ 64
  pub put : Put t.out.now t.at text u.out.now u.at
