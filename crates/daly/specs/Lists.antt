-- What C is told of a many-valued reply. Definitions only.
use Rattle.std.specs.Prelude.{ℕ, Bool, List, length, ℤ, Float}
use Rattle.wire.specs.Lists.{firsts}
use Rattle.list.specs.declared.ListTold.{ListTold}
use Rattle.list.specs.Listed.{Tells}
use Rattle.list.specs.Cells.{voltage_at, millivolts_at, temperature_at, voltages_check, temperatures_check}
use Rattle.flags.specs.Balance.{flag_count, flag_at, balance_check}
use Rattle.flags.specs.Faults.{faults, faults_check}
use Rattle.rules.specs.Reader.{Reader, copy_check, joined}

-- of the reply s and the count n, the lent places before and after, and the answer
abbrev pub TellsVoltages : List ℕ → ℕ → List Float → ListTold → List Float → Type 0
TellsVoltages s n out r exit = Tells (voltages_check s n (length out)) (firsts (voltage_at s) n) out r exit

abbrev pub TellsMillivolts : List ℕ → ℕ → List ℕ → ListTold → List ℕ → Type 0
TellsMillivolts s n out r exit = Tells (voltages_check s n (length out)) (firsts (millivolts_at s) n) out r exit

abbrev pub TellsTemperatures : List ℕ → ℕ → List ℤ → ListTold → List ℤ → Type 0
TellsTemperatures s n out r exit = Tells (temperatures_check s n (length out)) (firsts (temperature_at s) n) out r exit

abbrev pub TellsBalance : List ℕ → ℕ → List Bool → ListTold → List Bool → Type 0
TellsBalance s n out r exit = Tells (balance_check s n (length out)) (firsts (flag_at s) (flag_count n)) out r exit

abbrev pub TellsFaults : List ℕ → List ℕ → ListTold → List ℕ → Type 0
TellsFaults s out r exit = Tells (faults_check s (length out)) (faults s) out r exit

-- of a reader: its collected frames, one after the other
abbrev pub TellsCollected : Reader → List ℕ → ListTold → List ℕ → Type 0
TellsCollected reader out r exit = Tells (copy_check reader (length out)) (joined reader.collected) out r exit
