-- What a scan over a slice, and a push's way over its chunk, come to: the statements of private functions. Definitions only.
use Rattle.std.specs.Prelude.{◌≡◌, ℕ, ◌+◌, ◌*◌, ◌<◌, ◌≤◌, List, length, drop, slice_index, slice_index_or, ◌==◌}
use Rattle.std.specs.List.{position_or_len}
use Rattle.rules.specs.Rules.{Config, Why}
use Rattle.rules.specs.Ledger.{Line, Outcome, discards, discards_for, clears}
use Rattle.rules.specs.Reader.{wrap, held_of, untaken}
use Rattle.reader.specs.View.{chop, front, seat}
use Rattle.reader.specs.declared.scan.Progress.{Progress}
use Rattle.reader.specs.declared.moves.Moved.{Moved}

-- how many bytes of s come before its first A5
abbrev pub noise_in : List ℕ → ℕ
noise_in s = position_or_len (λ byte. byte == 0xA5) s

-- the tally t became u along a ledger: the bytes taken are not counted here; the others go on modulo 2^32
pub record Tallied (t u : List ℕ) (ls : List Line) : Type 0 where
  pub taken : slice_index_or u 0 0 ≡ slice_index t 0
  pub cleared : wrap (slice_index u 6) ≡ wrap (slice_index t 6 + clears ls)
  pub long : length u ≡ 7
  pub small : ((i : ℕ) → slice_index t i < 4294967296) → (i : ℕ) → slice_index u i < 4294967296
  pub lost : (y : Why) → wrap (slice_index u (seat y)) ≡ wrap (slice_index t (seat y) + discards_for y ls)

-- a scan of s came to r, left the frames f and brought the tally from t to u: its outcome is o
pub record Ran (o : Outcome) (t u s f : List ℕ) (r : Progress) : Type 0 where
  pub collected : o.collected ≡ chop r.collected f
  pub rest : o.rest ≡ drop r.at s
  pub lost : r.lost ≡ discards o.ledger
  pub tally : Tallied t u o.ledger
  pub within : r.at ≤ length s
  pub less : r.lost ≤ r.at

-- a push of s came to m, left the bytes f and brought the tally from t to u: its outcome is o
pub record Moves (c : Config) (o : Outcome) (t u : List ℕ) (s f : List ℕ) (m : Moved) : Type 0 where
  pub collected : o.collected ≡ chop m.collected f
  pub held : held_of c o.collected o.rest ≡ front m.held (drop (13 * m.collected) f)
  pub took : m.took + length (untaken c o.collected o.rest) ≡ length s
  pub lost : m.lost ≡ discards o.ledger
  pub tally : Tallied t u o.ledger
