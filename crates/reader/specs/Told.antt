-- What a new reader, `missing` and `is_complete` answer. Definitions only.
use Rattle.std.specs.Prelude.{ℕ, Bool, false, List, replicate}
use Rattle.frame.specs.Refusals.{answer_number}
use Rattle.rules.specs.Rules.{Config}
use Rattle.rules.specs.Reader.{Reader, new_check, new_config, missing, completeness, state_number}
use Rattle.reader.specs.declared.Counts.{Counts}
use Rattle.reader.specs.declared.FrameReader.{FrameReader}
use Rattle.reader.specs.declared.fresh.Opening.{Opening}
use Rattle.reader.specs.declared.fresh.Opened.{Opened}
use Rattle.reader.specs.declared.queries.Missing.{Missing}
use Rattle.reader.specs.declared.queries.Completed.{Completed}

-- a reader into which nothing was pushed: its numbers, and these with its array, all 0
abbrev pub fresh_counts : ℕ → ℕ → Bool → Counts
fresh_counts command wanted strict =
    record { command = command; mark = false; strict = strict; tally = replicate 7 0; wanted = wanted; collected = 0; held = 0 }

abbrev pub fresh_reader : ℕ → ℕ → Bool → FrameReader
fresh_reader command wanted strict = record { counts = fresh_counts command wanted strict; frames = replicate 1105 0 }

-- what a new reader begins with: 0, 7 or 6, and its numbers
abbrev pub opening_of : List ℕ → ℕ → Bool → Opening
opening_of request size strict =
    let c : Config = new_config (new_check request size) request size strict in
    record { number = answer_number (new_check request size); counts = fresh_counts c.command c.wanted c.strict }

-- "A refused new reader is all zero and wants 0 frames"
abbrev pub opened : List ℕ → ℕ → Bool → Opened
opened request size strict =
    let c : Config = new_config (new_check request size) request size strict in
    record { number = answer_number (new_check request size); reader = fresh_reader c.command c.wanted c.strict }

-- "`missing` then answers 0 and completeness no, both with 8"
abbrev pub missing_told : Reader → Missing
missing_told r = record { number = state_number r; missing = missing r }

abbrev pub complete_told : Reader → Completed
complete_told r = record { number = state_number r; complete = completeness r }
