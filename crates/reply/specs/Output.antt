-- Document 01, `readreply`: what it prints, of the bytes of its input alone. Definitions only.
use Rattle.std.specs.Prelude.{ℕ, Bool, false, cond, ◌&&◌, List, [], ◌∷◌, leb, eqb, length}
use Rattle.frame.specs.declared.refusal.Refusal.TheVariants.{RequestTooShort, UnknownCommand}
use Rattle.list.specs.Numbered.{reply_size}
use Rattle.rules.specs.Rules.{Config}
use Rattle.rules.specs.Reader.{Reader, all_of, fresh, frames_of, joined, status, answer}
use Rattle.report.specs.declared.Tally.{Tally}
use Rattle.report.specs.Lines.{refusal_line}
use Rattle.report.specs.Report.{report_text}

-- 10: "command not 90 to 98"
abbrev pub known : ℕ → Bool
known command = leb 0x90 command && leb command 0x98

-- the size of the reply that was asked for: a list of voltages or temperatures has a frame for every 3 or 7, all else is one frame
unfoldable pub reply_size_for : ℕ → ℕ → ℕ
reply_size_for command count = cond (eqb command 0x95) (reply_size 3 count) (cond (eqb command 0x96) (reply_size 7 count) 13)

abbrev pub wanted_for : ℕ → ℕ → ℕ
wanted_for command count = frames_of (reply_size_for command count)

abbrev pub asked : ℕ → ℕ → Config
asked command count = record { command = command; wanted = wanted_for command count; strict = false }

-- "one line of counts"; (document 02, K3) `discarded` is "their sum modulo 2^32", and the five stand behind `cleared`
abbrev pub tally : Reader → Tally
tally r =
    record {
      taken = r.taken;
      held = length r.held;
      frames = length r.collected;
      discarded = all_of r.discarded;
      cleared = r.cleared;
      noise = r.discarded.noise;
      sum = r.discarded.sum;
      command = r.discarded.command;
      number = r.discarded.number;
      echo = r.discarded.echo;
    }

-- "then the fields .. or `refused N`: 2 when the last push said so, else the decoder's number", on the collected bytes
abbrev pub reply_text : ℕ → ℕ → Reader → List ℕ
reply_text command count r = report_text command count (tally r) (joined r.collected) (status r)

unfoldable pub reported : ℕ → ℕ → Reader → List ℕ
reported command count r = cond (known command) (reply_text command count r) (refusal_line UnknownCommand)

-- "Standard input: command byte, count byte .., then the stream. It pushes to the end of the input"; "Refusals 7 and 10, tested in that order"
abbrev pub output_of : List ℕ → List ℕ
output_of [] = refusal_line RequestTooShort
output_of (command ∷ []) = refusal_line RequestTooShort
output_of (command ∷ count ∷ stream) = reported command count (answer (fresh (asked command count)) stream).reader
