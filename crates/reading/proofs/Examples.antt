-- The commands of the requests whose replies are only checked, over the definition that the contracts cite. Assumes nothing.
use Rattle.std.proofs.Common.{◌≡◌, [], ◌∷◌, map, refl}
use Rattle.frame.specs.declared.command.Mosfet.TheVariants.{Discharge, Charge}
use Rattle.reading.specs.declared.Acknowledged.TheVariants.{SetMosfet, SetSoc, BmsReset}
use Rattle.reading.specs.Acknowledged.{acknowledged_command}

-- "`SetDischargeMosfet` D9, `SetChargeMosfet` DA", "`SetSoc` 21, `BmsReset` 00"
commands : map acknowledged_command (SetMosfet Discharge ∷ SetMosfet Charge ∷ SetSoc ∷ BmsReset ∷ []) ≡ 0xD9 ∷ 0xDA ∷ 0x21 ∷ 0x00 ∷ []
commands = refl
