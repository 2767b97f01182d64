-- What the private functions say of their part. No promise cites it. Definitions only.
use Rattle.std.specs.Prelude.{ℕ, ◌+◌, ◌≤◌, ◌≡◌, List, ◌++◌, length, take}
use Rattle.std.proofs.lemmas.List.Edits.{sets}
use Rattle.frame.specs.Refusals.{sound}
use Rattle.frame.specs.Checks.{frame_check}
use Rattle.list.specs.Listed.{gate}
use Rattle.flags.specs.Faults.{Test, run}

-- the frame of a reply with room for its values, where the whole check finds nothing
pub record IsRoomy (command places room : ℕ) (s frame : List ℕ) : Type 0 where
  pub checked : gate 13 places room s (frame_check command s) ≡ sound
  pub bytes : frame ≡ take 13 s
  pub room_for : places ≤ room

-- values put into `out` from place `at` on, at most `most` of them, and the place after them
pub record Noted (out : List ℕ) (at most : ℕ) (values exit : List ℕ) (next : ℕ) : Type 0 where
  pub count : next ≡ at + length values
  pub few : length values ≤ most
  pub left : exit ≡ sets out at values

-- the tests of bytes 4 to 6, and of bytes 7 to 10
abbrev pub low_tests : List Test
low_tests = run 4 0 0 8 ++ run 5 0 8 8 ++ run 6 1 17 1 ++ run 6 0 16 1 ++ run 6 2 18 6

abbrev pub high_tests : List Test
high_tests = run 7 0 24 4 ++ run 8 0 28 8 ++ run 9 0 36 8 ++ run 10 0 44 4
