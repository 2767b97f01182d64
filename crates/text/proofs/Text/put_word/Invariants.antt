use lib.ListN.{take}
use Rattle.text.specs.Putting.{Puts}
use Rattle.text.proofs.Text.put_word.Given as goal

abbrev pub invariant-loop-byte : goal.invariant-loop-byte
invariant-loop-byte l = Puts l.initial.self (take l.byte-index l.word) l.self
