-- Document 01, module 2: "`SetDischargeMosfet` D9, `SetChargeMosfet` DA". Definitions only.
use Rattle.std.specs.Prelude.{ℕ}
use Rattle.frame.specs.declared.command.Mosfet.{Mosfet}
use Rattle.frame.specs.declared.command.Mosfet.TheVariants.{Discharge, Charge}

abbrev pub mosfet_command : Mosfet → ℕ
mosfet_command Discharge = 0xD9
mosfet_command Charge = 0xDA
