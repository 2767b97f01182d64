-- What was written is read back, every reply. Assumes nothing.
use mathlib.Core.Path.{◌≡◌}
use mathlib.Core.List.{List}
use lib.ListN.{length}
use Rattle.std.specs.Prelude.{ℕ, Result}
use Rattle.frame.specs.Refusals.{Check}
use Rattle.frame.specs.Refusals.{sound}
use Rattle.frame.specs.declared.refusal.Refusal.{Refusal}
use Rattle.list.specs.Listed.{Stores}
use Rattle.writing_flags.proofs.BalanceBack.{balance_sound, balance_back}
use Rattle.writing_flags.proofs.FaultsBack.{faults_sound, faults_back}
use Rattle.writing_lists.proofs.Cells.{cells_sound, cells_back, volts_back}
use Rattle.writing_lists.proofs.Sensors.{sensors_sound, sensors_back}
use Rattle.readback.specs.ReadBack.{ReadBack}
use Rattle.readback.proofs.OneFrame.{soc-counts_back, soc_back, range-counts_back, range_back, temperatures_back, mosfet-counts_back, mosfet_back, status_back, acknowledged}

-- a decoder whose check finds nothing has stored its values, and they are what was meant
stored : {A : Type 0} {check : Check} {values meant out exit : List A} {r : Result ℕ Refusal} → check ≡ sound → values ≡ meant → Stores check values out r exit → Stores sound meant out r exit
stored p q d = rw (p, q) at d

pub read_back : ReadBack
read_back =
    record {
      soc-counts = soc-counts_back;
      soc = soc_back;
      cell-voltage-range-counts = range-counts_back;
      cell-voltage-range = range_back;
      temperature-range = temperatures_back;
      mosfet-status-counts = mosfet-counts_back;
      mosfet-status = mosfet_back;
      status = status_back;
      cells = λ address cells out h r exit. stored (cells_sound address cells (length out) h) (cells_back address cells);
      volts = λ address cells out h r exit. stored (cells_sound address cells (length out) h) (volts_back address cells);
      sensors = λ address degrees out f h r exit. stored (sensors_sound address degrees (length out) h) (sensors_back address degrees f);
      balance = λ address flags out a b h r exit. stored (balance_sound address flags a b (length out) h) (balance_back address flags a b);
      faults = λ address flags out h r exit. stored (faults_sound address flags (length out) h) (faults_back address flags);
      acknowledged = acknowledged;
    }
