-- How the structs that C shares with the library lie in memory. `tools/test_layouts` holds these lines to C's and Rust's. Assumes nothing.
use mathlib.Core.Path.{◌≡◌, refl}
use mathlib.Core.List.{[], ◌∷◌}
use Rattle.wire.proofs.Places.{layout}
use Rattle.list.proofs.ListTold.TheLaws as ListTold
use Rattle.writing.proofs.SocWire.TheLaws as SocWire
use Rattle.writing.proofs.MosfetStatusWire.TheLaws as MosfetStatusWire
use Rattle.writers.proofs.replies.CellVoltageRangeWire.TheLaws as CellVoltageRangeWire
use Rattle.writers.proofs.replies.TemperatureRangeWire.TheLaws as TemperatureRangeWire
use Rattle.writers.proofs.replies.StatusWire.TheLaws as StatusWire

list : layout ListTold.mir ≡ 16 ∷ 0 ∷ 8 ∷ []
list = refl

soc-wire : layout SocWire.mir ≡ 6 ∷ 0 ∷ 2 ∷ 4 ∷ []
soc-wire = refl

cell_voltage_range-wire : layout CellVoltageRangeWire.mir ≡ 8 ∷ 0 ∷ 2 ∷ 4 ∷ 6 ∷ []
cell_voltage_range-wire = refl

temperature_range-wire : layout TemperatureRangeWire.mir ≡ 4 ∷ 0 ∷ 1 ∷ 2 ∷ 3 ∷ []
temperature_range-wire = refl

mosfet_status-wire : layout MosfetStatusWire.mir ≡ 8 ∷ 0 ∷ 1 ∷ 2 ∷ 3 ∷ 4 ∷ []
mosfet_status-wire = refl

status-wire : layout StatusWire.mir ≡ 14 ∷ 0 ∷ 1 ∷ 2 ∷ 3 ∷ 4 ∷ 5 ∷ 6 ∷ 7 ∷ 8 ∷ 9 ∷ 10 ∷ 11 ∷ 12 ∷ []
status-wire = refl
