-- Document 01, module 3: "set and reset replies are only checked". Definitions only.
use Rattle.std.specs.Prelude.{ℕ}
use Rattle.frame.specs.Commands.{mosfet_command}
use Rattle.reading.specs.declared.Acknowledged.{Acknowledged}
use Rattle.reading.specs.declared.Acknowledged.TheVariants.{SetMosfet, SetSoc, BmsReset}

-- the command of each: beside the two of the MOSFETs "`SetSoc` 21, `BmsReset` 00"
abbrev pub acknowledged_command : Acknowledged → ℕ
acknowledged_command (SetMosfet mosfet) = mosfet_command mosfet
acknowledged_command SetSoc = 0x21
acknowledged_command BmsReset = 0x00
