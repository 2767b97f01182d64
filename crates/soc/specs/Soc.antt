-- Document 01, module 3: the 90 reply. Definitions only.
use Rattle.std.specs.Prelude.{ℕ, ℤ, List, pos, Float, Result, Ok, Err}
use Rattle.wire.specs.Bytes.{count2}
use Rattle.frame.specs.declared.refusal.Refusal.{Refusal}
use Rattle.frame.specs.Checks.{frame_check}
use Rattle.units.specs.Floats.{tenths, current_count}
use Rattle.frame.specs.Reply.{answer}
use Rattle.soc.specs.declared.Soc.{Soc}

-- antt has no name for an alias
abbrev pub SocCounts : Type 0
SocCounts = Soc ℕ ℤ

abbrev pub SocRecord : Type 0
SocRecord = Soc Float Float

-- "Two-byte counts are high byte first"; the current's is "count − 30000"; "Bytes 6 and 7 of a 90 reply are ignored"
abbrev pub soc_counts : List ℕ → SocCounts
soc_counts s = record {
  total_voltage = count2 s 4;
  current = current_count (count2 s 8);
  soc_percent = count2 s 10;
}

-- "tenths are the count divided by 10.0"; "Current is (count − 30000) / 10.0"
abbrev pub soc_of : SocCounts → SocRecord
soc_of k = record {
  total_voltage = tenths (pos k.total_voltage);
  current = tenths k.current;
  soc_percent = tenths (pos k.soc_percent);
}

-- refusals 1, 2, 3 of the frame check, else the counts
abbrev pub decoded_soc_counts : List ℕ → Result SocCounts Refusal
decoded_soc_counts s = answer (frame_check 0x90 s) (soc_counts s)

-- the record of the counts; a refusal stays
abbrev pub soc_answer : Result SocCounts Refusal → Result SocRecord Refusal
soc_answer (Ok k) = Ok (soc_of k)
soc_answer (Err r) = Err r

abbrev pub decoded_soc : List ℕ → Result SocRecord Refusal
decoded_soc s = soc_answer (decoded_soc_counts s)
