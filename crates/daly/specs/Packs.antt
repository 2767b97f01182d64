-- What C is told of the pack check: document 01's number and the check, or the number and zeros. Definitions only.
use Rattle.std.specs.Prelude.{false, pos, Result, Ok, Err}
use Rattle.frame.specs.declared.refusal.Refusal.{Refusal}
use Rattle.frame.specs.Refusals.{refusal_number}
use Rattle.pack.specs.declared.PackCheck.{PackCheck}
use Rattle.daly.specs.declared.packs.PackTold.{PackTold}

abbrev pub pack_told : Result PackCheck Refusal → PackTold
pack_told (Ok check) = record { number = 0; agrees = check.agrees; difference = check.difference }
pack_told (Err r) = record { number = refusal_number r; agrees = false; difference = pos 0 }
