-- Each contract of the crate allows one answer. Assumes nothing.
use Prim.Native.Nat.{ℕ}
use mathlib.Core.Path.{◌≡◌, refl, ap, sym, ◌∙◌}
use mathlib.Core.Bool.{Bool}
use mathlib.Core.List.{List}
use seplogic.Ra.Ura.{Ura}
use base.Logic.{SProp}
use prog.Memory.{Memory}
use prog.Routine.{Routine}
use types.Logic.{Logic}
use contract.Lifetimes.{Lfts}
use contract.Monad.{Fun, fact}
use denote.Triple.Clauses.{AtExit}
use denote.Triple.Entry.{Args}
use Rattle.wire.proofs.Decides.{Decides, same, both}
use Rattle.reader.specs.Lent.{TurnedLent, OpenedLent, seen}
use Rattle.reader.specs.Told.{missing_told, complete_told}
use Rattle.reader.specs.declared.FrameReader.{FrameReader}
use Rattle.reader.specs.declared.fresh.Opened.{Opened}
use Rattle.reader.specs.declared.pushing.Turn.{Turn}
use Rattle.reader.specs.declared.queries.Missing.{Missing}
use Rattle.reader.specs.declared.queries.Completed.{Completed}
use Rattle.reader.proofs.Agreeing.{TurnDecides, turned_once}
use Rattle.list.specs.declared.ListTold.{ListTold}
use Rattle.daly.specs.Lists.{TellsCollected}
use Rattle.daly.proofs.Asked.{pinned}
use Rattle.list.proofs.Told.{tells_one}
use Rattle.daly.proofs.daly_calc_crc.Reads as daly_calc_crc
use Rattle.daly.proofs.daly_frame_check.Reads as daly_frame_check
use Rattle.daly.proofs.daly_frame_refusal.Reads as daly_frame_refusal
use Rattle.daly.proofs.daly_request.Reads as daly_request
use Rattle.daly.proofs.readings.daly_soc.Reads as daly_soc
use Rattle.daly.proofs.readings.daly_soc_counts.Reads as daly_soc_counts
use Rattle.daly.proofs.readings.daly_cell_voltage_range.Reads as daly_cell_voltage_range
use Rattle.daly.proofs.readings.daly_cell_voltage_range_counts.Reads as daly_cell_voltage_range_counts
use Rattle.daly.proofs.readings.daly_temperature_range.Reads as daly_temperature_range
use Rattle.daly.proofs.readings.daly_mosfet_status.Reads as daly_mosfet_status
use Rattle.daly.proofs.readings.daly_mosfet_status_counts.Reads as daly_mosfet_status_counts
use Rattle.daly.proofs.readings.daly_status.Reads as daly_status
use Rattle.daly.proofs.readings.SocToldFromResultSocRefusal.from.Reads as SocTold
use Rattle.daly.proofs.readings.SocCountsToldFromResultSocCountsRefusal.from.Reads as SocCountsTold
use Rattle.daly.proofs.readings.CellVoltageRangeToldFromResultCellVoltageRangeRefusal.from.Reads as CellVoltageRangeTold
use Rattle.daly.proofs.readings.CellVoltageRangeCountsToldFromResultCellVoltageRangeCountsRefusal.from.Reads as CellVoltageRangeCountsTold
use Rattle.daly.proofs.readings.TemperatureRangeToldFromResultTemperatureRangeRefusal.from.Reads as TemperatureRangeTold
use Rattle.daly.proofs.readings.MosfetStatusToldFromResultMosfetStatusRefusal.from.Reads as MosfetStatusTold
use Rattle.daly.proofs.readings.MosfetStatusCountsToldFromResultMosfetStatusCountsRefusal.from.Reads as MosfetStatusCountsTold
use Rattle.daly.proofs.readings.StatusToldFromResultStatusRefusal.from.Reads as StatusTold
use Rattle.daly.proofs.FrameKindToldFromResultFrameKindRefusal.from.Reads as FrameKindTold
use Rattle.daly.proofs.packs.PackToldFromResultPackCheckRefusal.from.Reads as PackTold
use Rattle.daly.proofs.lists.daly_cell_voltages_reply_size.Reads as daly_cell_voltages_reply_size
use Rattle.daly.proofs.lists.daly_cell_temperatures_reply_size.Reads as daly_cell_temperatures_reply_size
use Rattle.daly.proofs.lists.daly_cell_voltages.Reads as daly_cell_voltages
use Rattle.daly.proofs.lists.daly_cell_millivolts.Reads as daly_cell_millivolts
use Rattle.daly.proofs.lists.daly_cell_temperatures.Reads as daly_cell_temperatures
use Rattle.daly.proofs.lists.daly_cell_balance_state.Reads as daly_cell_balance_state
use Rattle.daly.proofs.lists.daly_error_codes.Reads as daly_error_codes
use Rattle.daly.proofs.packs.daly_pack_check.Reads as daly_pack_check
use Rattle.daly.proofs.readers.daly_discarded_all.Reads as daly_discarded_all
use Rattle.daly.specs.contracts.readers.daly_reader_new as new
use Rattle.daly.specs.contracts.readers.daly_reader_push as push
use Rattle.daly.specs.contracts.readers.daly_reader_missing as ask_missing
use Rattle.daly.specs.contracts.readers.daly_reader_is_complete as ask_complete
use Rattle.daly.specs.contracts.readers.daly_reader_copy_out as copy_out

daly_calc_crc-decides : Decides daly_calc_crc.Post (λ κs r s. r)
daly_calc_crc-decides κs a x y s t = same

daly_discarded_all-decides : Decides daly_discarded_all.Post (λ κs r s. r)
daly_discarded_all-decides κs a x y s t = same

daly_frame_check-decides : Decides daly_frame_check.Post (λ κs r s. r)
daly_frame_check-decides κs a x y s t = same

daly_frame_refusal-decides : Decides daly_frame_refusal.Post (λ κs r s. r)
daly_frame_refusal-decides κs a x y s t = same

-- the answer, and the lent bytes (the fourth parameter) at exit
daly_request-decides : Decides daly_request.Post (λ κs r s. both r s.1.1.1.0.now)
daly_request-decides κs a x y s t = pinned

daly_soc-decides : Decides daly_soc.Post (λ κs r s. r)
daly_soc-decides κs a x y s t = same

daly_soc_counts-decides : Decides daly_soc_counts.Post (λ κs r s. r)
daly_soc_counts-decides κs a x y s t = same

daly_cell_voltage_range-decides : Decides daly_cell_voltage_range.Post (λ κs r s. r)
daly_cell_voltage_range-decides κs a x y s t = same

daly_cell_voltage_range_counts-decides : Decides daly_cell_voltage_range_counts.Post (λ κs r s. r)
daly_cell_voltage_range_counts-decides κs a x y s t = same

daly_temperature_range-decides : Decides daly_temperature_range.Post (λ κs r s. r)
daly_temperature_range-decides κs a x y s t = same

daly_mosfet_status-decides : Decides daly_mosfet_status.Post (λ κs r s. r)
daly_mosfet_status-decides κs a x y s t = same

daly_mosfet_status_counts-decides : Decides daly_mosfet_status_counts.Post (λ κs r s. r)
daly_mosfet_status_counts-decides κs a x y s t = same

daly_status-decides : Decides daly_status.Post (λ κs r s. r)
daly_status-decides κs a x y s t = same

FrameKindTold-from-decides : Decides FrameKindTold.Post (λ κs r s. r)
FrameKindTold-from-decides κs a x y s t = same

SocTold-from-decides : Decides SocTold.Post (λ κs r s. r)
SocTold-from-decides κs a x y s t = same

SocCountsTold-from-decides : Decides SocCountsTold.Post (λ κs r s. r)
SocCountsTold-from-decides κs a x y s t = same

CellVoltageRangeTold-from-decides : Decides CellVoltageRangeTold.Post (λ κs r s. r)
CellVoltageRangeTold-from-decides κs a x y s t = same

CellVoltageRangeCountsTold-from-decides : Decides CellVoltageRangeCountsTold.Post (λ κs r s. r)
CellVoltageRangeCountsTold-from-decides κs a x y s t = same

TemperatureRangeTold-from-decides : Decides TemperatureRangeTold.Post (λ κs r s. r)
TemperatureRangeTold-from-decides κs a x y s t = same

MosfetStatusTold-from-decides : Decides MosfetStatusTold.Post (λ κs r s. r)
MosfetStatusTold-from-decides κs a x y s t = same

MosfetStatusCountsTold-from-decides : Decides MosfetStatusCountsTold.Post (λ κs r s. r)
MosfetStatusCountsTold-from-decides κs a x y s t = same

StatusTold-from-decides : Decides StatusTold.Post (λ κs r s. r)
StatusTold-from-decides κs a x y s t = same

PackTold-from-decides : Decides PackTold.Post (λ κs r s. r)
PackTold-from-decides κs a x y s t = same

daly_cell_voltages_reply_size-decides : Decides daly_cell_voltages_reply_size.Post (λ κs r s. r)
daly_cell_voltages_reply_size-decides κs a x y s t = same

daly_cell_temperatures_reply_size-decides : Decides daly_cell_temperatures_reply_size.Post (λ κs r s. r)
daly_cell_temperatures_reply_size-decides κs a x y s t = same

daly_cell_voltages-decides : Decides daly_cell_voltages.Post (λ κs r s. both r s.1.1.0.now)
daly_cell_voltages-decides κs a x y s t = tells_one

daly_cell_millivolts-decides : Decides daly_cell_millivolts.Post (λ κs r s. both r s.1.1.0.now)
daly_cell_millivolts-decides κs a x y s t = tells_one

daly_cell_temperatures-decides : Decides daly_cell_temperatures.Post (λ κs r s. both r s.1.1.0.now)
daly_cell_temperatures-decides κs a x y s t = tells_one

daly_cell_balance_state-decides : Decides daly_cell_balance_state.Post (λ κs r s. both r s.1.1.0.now)
daly_cell_balance_state-decides κs a x y s t = tells_one

daly_error_codes-decides : Decides daly_error_codes.Post (λ κs r s. both r s.1.0.now)
daly_error_codes-decides κs a x y s t = tells_one

daly_pack_check-decides : Decides daly_pack_check.Post (λ κs r s. r)
daly_pack_check-decides κs a x y s t = same

-- of `daly_reader_new` the `ensures` is `OpenedLent`, of the request, the size, the mode, the answer and the reader at exit: one answer and one reader, to the last place
new-says : {M : Type 1} {𝓤 : Ura M} (𝓛 : Logic 𝓤) (mem : Memory → SProp 𝓤) (run : Routine → Fun 𝓤) (κs : Lfts 2) (a : Args new.signature κs) (r : ℕ) (out : AtExit new.ended κs)
    → (new.clauses 𝓛 mem run κs a).ensures tt r out ≡ fact 𝓤 (OpenedLent a.1.0.now a.1.1.0 a.1.1.1.0 r out.0.now)
new-says 𝓛 mem run κs a r out = refl

abbrev NewLentDecides : Type 0
NewLentDecides =
    (request : List ℕ) (size : ℕ) (strict : Bool) (r q : ℕ) (x y : FrameReader) → OpenedLent request size strict r x → OpenedLent request size strict q y → (r ≡ q) × (x ≡ y)

daly_reader_new-decides : NewLentDecides
daly_reader_new-decides request size strict r q x y s t = (ap (λ (o : Opened). o.number) (s ∙ sym t), ap (λ (o : Opened). o.reader) (s ∙ sym t))

-- of `daly_reader_push` the `ensures` is `TurnedLent`, of the reader at entry, the chunk, the answer and the reader at exit
push-says : {M : Type 1} {𝓤 : Ura M} (𝓛 : Logic 𝓤) (mem : Memory → SProp 𝓤) (run : Routine → Fun 𝓤) (κs : Lfts 2) (a : Args push.signature κs) (r : Turn) (out : AtExit push.ended κs)
    → (push.clauses 𝓛 mem run κs a).ensures tt r out ≡ fact 𝓤 (TurnedLent a.0.now a.1.0.now r out.0.now)
push-says 𝓛 mem run κs a r out = refl

daly_reader_push-decides : TurnDecides
daly_reader_push-decides = turned_once

-- of the asks the `ensures` is an equation, of the reader at entry and the answer
missing-says : {M : Type 1} {𝓤 : Ura M} (𝓛 : Logic 𝓤) (mem : Memory → SProp 𝓤) (run : Routine → Fun 𝓤) (κs : Lfts 1) (a : Args ask_missing.signature κs) (r : Missing) (out : AtExit ask_missing.ended κs)
    → (ask_missing.clauses 𝓛 mem run κs a).ensures tt r out ≡ fact 𝓤 (r ≡ missing_told (seen a.0.now))
missing-says 𝓛 mem run κs a r out = refl

abbrev MissingLentDecides : Type 0
MissingLentDecides = (reader : FrameReader) (x y : Missing) → x ≡ missing_told (seen reader) → y ≡ missing_told (seen reader) → x ≡ y

daly_reader_missing-decides : MissingLentDecides
daly_reader_missing-decides reader x y s t = s ∙ sym t

complete-says : {M : Type 1} {𝓤 : Ura M} (𝓛 : Logic 𝓤) (mem : Memory → SProp 𝓤) (run : Routine → Fun 𝓤) (κs : Lfts 1) (a : Args ask_complete.signature κs) (r : Completed) (out : AtExit ask_complete.ended κs)
    → (ask_complete.clauses 𝓛 mem run κs a).ensures tt r out ≡ fact 𝓤 (r ≡ complete_told (seen a.0.now))
complete-says 𝓛 mem run κs a r out = refl

abbrev CompleteLentDecides : Type 0
CompleteLentDecides = (reader : FrameReader) (x y : Completed) → x ≡ complete_told (seen reader) → y ≡ complete_told (seen reader) → x ≡ y

daly_reader_is_complete-decides : CompleteLentDecides
daly_reader_is_complete-decides reader x y s t = s ∙ sym t

-- of `daly_reader_copy_out` it is `TellsCollected`, of the reader and the places at entry, the answer and the places at exit
copy_out-says : {M : Type 1} {𝓤 : Ura M} (𝓛 : Logic 𝓤) (mem : Memory → SProp 𝓤) (run : Routine → Fun 𝓤) (κs : Lfts 2) (a : Args copy_out.signature κs) (r : ListTold) (out : AtExit copy_out.ended κs)
    → (copy_out.clauses 𝓛 mem run κs a).ensures tt r out ≡ fact 𝓤 (TellsCollected (seen a.0.now) a.1.0.now r out.1.0.now)
copy_out-says 𝓛 mem run κs a r out = refl

abbrev CopyLentDecides : Type 0
CopyLentDecides =
    (reader : FrameReader) (out : List ℕ) (x y : ListTold) (u v : List ℕ) → TellsCollected (seen reader) out x u → TellsCollected (seen reader) out y v → both x u ≡ both y v

daly_reader_copy_out-decides : CopyLentDecides
daly_reader_copy_out-decides reader out x y u v s t = tells_one s t
