-- How the structs that C shares with the library lie in memory. `tools/test_layouts` holds these lines to C's and Rust's. Assumes nothing.
use mathlib.Core.Path.{◌≡◌, refl}
use mathlib.Core.List.{[], ◌∷◌}
use Rattle.wire.proofs.Places.{layout}
use Rattle.reader.proofs.tally.Discarded.TheLaws as Discarded
use Rattle.reader.proofs.Counts.TheLaws as Counts
use Rattle.reader.proofs.FrameReader.TheLaws as FrameReader
use Rattle.reader.proofs.Turn.TheLaws as Turn
use Rattle.reader.proofs.Missing.TheLaws as Missing
use Rattle.reader.proofs.Completed.TheLaws as Completed
use Rattle.list.proofs.ListTold.TheLaws as ListTold
use Rattle.daly.proofs.FrameKindTold.TheLaws as FrameKindTold
use Rattle.daly.proofs.packs.PackTold.TheLaws as PackTold
use Rattle.daly.proofs.readings.SocTold.TheLaws as SocTold
use Rattle.daly.proofs.readings.SocCountsTold.TheLaws as SocCountsTold
use Rattle.daly.proofs.readings.CellVoltageRangeTold.TheLaws as CellVoltageRangeTold
use Rattle.daly.proofs.readings.CellVoltageRangeCountsTold.TheLaws as CellVoltageRangeCountsTold
use Rattle.daly.proofs.readings.TemperatureRangeTold.TheLaws as TemperatureRangeTold
use Rattle.daly.proofs.readings.MosfetStatusTold.TheLaws as MosfetStatusTold
use Rattle.daly.proofs.readings.MosfetStatusCountsTold.TheLaws as MosfetStatusCountsTold
use Rattle.daly.proofs.readings.StatusTold.TheLaws as StatusTold

frame-kind : layout FrameKindTold.mir ≡ 2 ∷ 0 ∷ 1 ∷ []
frame-kind = refl

discarded : layout Discarded.mir ≡ 20 ∷ 0 ∷ 4 ∷ 8 ∷ 12 ∷ 16 ∷ []
discarded = refl

counts : layout Counts.mir ≡ 56 ∷ 0 ∷ 1 ∷ 2 ∷ 4 ∷ 32 ∷ 40 ∷ 48 ∷ []
counts = refl

reader : layout FrameReader.mir ≡ 1168 ∷ 0 ∷ 56 ∷ []
reader = refl

said : layout Turn.mir ≡ 16 ∷ 0 ∷ 1 ∷ 8 ∷ []
said = refl

missing : layout Missing.mir ≡ 16 ∷ 0 ∷ 8 ∷ []
missing = refl

completed : layout Completed.mir ≡ 2 ∷ 0 ∷ 1 ∷ []
completed = refl

list : layout ListTold.mir ≡ 16 ∷ 0 ∷ 8 ∷ []
list = refl

pack : layout PackTold.mir ≡ 8 ∷ 0 ∷ 1 ∷ 4 ∷ []
pack = refl

soc : layout SocTold.mir ≡ 16 ∷ 0 ∷ 4 ∷ 8 ∷ 12 ∷ []
soc = refl

soc-counts : layout SocCountsTold.mir ≡ 12 ∷ 0 ∷ 2 ∷ 4 ∷ 8 ∷ []
soc-counts = refl

cell-voltage-range : layout CellVoltageRangeTold.mir ≡ 20 ∷ 0 ∷ 4 ∷ 8 ∷ 12 ∷ 16 ∷ []
cell-voltage-range = refl

cell-voltage-range-counts : layout CellVoltageRangeCountsTold.mir ≡ 10 ∷ 0 ∷ 2 ∷ 4 ∷ 6 ∷ 8 ∷ []
cell-voltage-range-counts = refl

temperature-range : layout TemperatureRangeTold.mir ≡ 5 ∷ 0 ∷ 1 ∷ 2 ∷ 3 ∷ 4 ∷ []
temperature-range = refl

mosfet-status : layout MosfetStatusTold.mir ≡ 12 ∷ 0 ∷ 1 ∷ 2 ∷ 3 ∷ 4 ∷ 8 ∷ []
mosfet-status = refl

mosfet-status-counts : layout MosfetStatusCountsTold.mir ≡ 12 ∷ 0 ∷ 1 ∷ 2 ∷ 3 ∷ 4 ∷ 8 ∷ []
mosfet-status-counts = refl

status : layout StatusTold.mir ≡ 16 ∷ 0 ∷ 1 ∷ 2 ∷ 3 ∷ 4 ∷ 5 ∷ 6 ∷ 7 ∷ 8 ∷ 9 ∷ 10 ∷ 11 ∷ 12 ∷ 14 ∷ []
status = refl
