-- No report is longer than 8,192 bytes, so a buffer of that size holds it whole. Assumes nothing.
use mathlib.Core.Path.{◌≡◌}
use mathlib.Core.Bool.{Bool, true, false, cond}
use mathlib.Core.List.{List, [], ◌∷◌, ◌++◌}
use Prim.Native.Nat.{ℕ, ◌+◌, ◌*◌, ◌≤◌, ◌<◌}
use native.Mathlib.Omega.{arith}
use lib.Dec.{eqb, lit≤}
use lib.IntN.{ℤ}
use lib.ListN.{length, take, length-append}
use Rattle.wire.specs.Lists.{firsts}
use Rattle.wire.specs.Bytes.{byte_at, bit}
use Rattle.std.specs.Prelude.{Result, Ok, Err}
use Rattle.frame.specs.declared.refusal.Refusal.{Refusal}
use Rattle.frame.specs.Refusals.{Check, refusal_number}
use Rattle.soc.specs.Soc.{SocCounts}
use Rattle.cell_voltage_range.specs.CellVoltageRange.{CellVoltageRangeCounts}
use Rattle.temperature_range.specs.declared.TemperatureRange.{TemperatureRange}
use Rattle.mosfet_status.specs.MosfetStatus.{MosfetStatusCounts}
use Rattle.status.specs.declared.Status.{Status}
use Rattle.soc.specs.Soc.{decoded_soc_counts}
use Rattle.cell_voltage_range.specs.CellVoltageRange.{decoded_cell_voltage_range_counts}
use Rattle.temperature_range.specs.TemperatureRange.{decoded_temperature_range}
use Rattle.mosfet_status.specs.MosfetStatus.{mode_number, decoded_mosfet_status_counts}
use Rattle.status.specs.Status.{decoded_status}
use Rattle.list.specs.Cells.{millivolts_at, voltages_check, temperature_at, temperatures_check}
use Rattle.wire.proofs.Firsts.{length-firsts}
use Rattle.flags.specs.Balance.{flag_count, flag_at, balance_check}
use Rattle.flags.specs.Faults.{Test, found, faults_by, fault_tests, faults, faults_check}
use Rattle.text.specs.Words.{word}
use Rattle.text.specs.Text.{Put, hex2, field, line, signed_line, newline, each}
use Rattle.text.proofs.Putting.{put_whole}
use Rattle.text.proofs.Long.{hex2-few, field-few, line-few, signed-line-few}
use Rattle.report.specs.declared.Tally.{Tally}
use Rattle.report.specs.Lines.{refused_line, flag_number, flag_line, list_text}
use Rattle.report.specs.Fields.{soc_text, cell_voltage_range_text, temperature_range_text, mosfet_status_text, status_text}
use Rattle.report.specs.Lists.{cell_line, sensor_line, balance_line, fault_line, cells_text, sensors_text, balance_text, faults_text}
use Rattle.report.specs.Report.{counts_middle, counts_text, answer_text, report_text}

-- a text of n bytes at most
record Few (n : ℕ) (text : List ℕ) : Type 0 where
  few : length text ≤ n

fewer : {m : ℕ} {text : List ℕ} (n : ℕ) → Few m text → m ≤ n → Few n text
fewer n p h = record { few = omega (arith, p.few) }

-- one text after another
few-then : {m n : ℕ} {a b : List ℕ} → Few m a → Few n b → Few (m + n) (a ++ b)
few-then {m} {n} {a} {b} p q = record { few = omega (arith, length-append a b, p.few, q.few) }

-- a line with a name of 19 bytes at most, the longest there is
named-line : (w : List ℕ) (n : ℕ) → length w ≤ 19 → Few 42 (line w n)
named-line w n h = record { few = omega (arith, line-few w n) }

named-signed : (w : List ℕ) (z : ℤ) → length w ≤ 19 → Few 42 (signed_line w z)
named-signed w z h = record { few = omega (arith, signed-line-few w z) }

named-flag : (w : List ℕ) (b : Bool) → length w ≤ 19 → Few 42 (flag_line w b)
named-flag w b h = named-line w (flag_number b) h

refused-few : (n : ℕ) → Few 7395 (refused_line n)
refused-few n = fewer 7395 (named-line (word "refused") n (lit≤ tt)) (lit≤ tt)

-- lines of 29 bytes at most, as many as there are values
module _ {A : Type 0} (f : A → List ℕ) (h : (v : A) → length (f v) ≤ 29) where
  each-few : (vs : List A) → length (each f vs) ≤ 29 * length vs
  each-few [] = omega arith
  each-few (v ∷ vs) = omega (arith, h v, each-few vs, length-append (f v) (each f vs))

list-few : (check : Check) (text : List ℕ) → length text ≤ 7395 → Few 7395 (list_text check text)
list-few (Ok given) text h = record { few = h }
list-few (Err r) text h = refused-few (refusal_number r)

soc-few : (a : Result SocCounts Refusal) → Few 7395 (soc_text a)
soc-few (Ok k) =
    fewer 7395 (few-then
    (few-then
    (named-line (word "total_voltage") k.total_voltage (lit≤ tt))
    (named-signed (word "current") k.current (lit≤ tt)))
    (named-line (word "soc_percent") k.soc_percent (lit≤ tt))) (lit≤ tt)
soc-few (Err r) = refused-few (refusal_number r)

cell_voltage_range-few : (a : Result CellVoltageRangeCounts Refusal) → Few 7395 (cell_voltage_range_text a)
cell_voltage_range-few (Ok k) =
    fewer 7395 (few-then
    (few-then
    (few-then
    (named-line (word "highest_voltage") k.highest_voltage (lit≤ tt))
    (named-line (word "highest_cell") k.highest_cell (lit≤ tt)))
    (named-line (word "lowest_voltage") k.lowest_voltage (lit≤ tt)))
    (named-line (word "lowest_cell") k.lowest_cell (lit≤ tt))) (lit≤ tt)
cell_voltage_range-few (Err r) = refused-few (refusal_number r)

temperature_range-few : (a : Result TemperatureRange Refusal) → Few 7395 (temperature_range_text a)
temperature_range-few (Ok k) =
    fewer 7395 (few-then
    (few-then
    (few-then
    (named-signed (word "highest_temperature") k.highest_temperature (lit≤ tt))
    (named-line (word "highest_sensor") k.highest_sensor (lit≤ tt)))
    (named-signed (word "lowest_temperature") k.lowest_temperature (lit≤ tt)))
    (named-line (word "lowest_sensor") k.lowest_sensor (lit≤ tt))) (lit≤ tt)
temperature_range-few (Err r) = refused-few (refusal_number r)

mosfet_status-few : (a : Result MosfetStatusCounts Refusal) → Few 7395 (mosfet_status_text a)
mosfet_status-few (Ok k) =
    fewer 7395 (few-then
    (few-then
    (few-then
    (few-then
    (named-line (word "mode") (mode_number k.mode) (lit≤ tt))
    (named-flag (word "charging_mosfet") k.charging_mosfet (lit≤ tt)))
    (named-flag (word "discharging_mosfet") k.discharging_mosfet (lit≤ tt)))
    (named-line (word "bms_cycles") k.bms_cycles (lit≤ tt)))
    (named-line (word "capacity_ah") k.capacity_ah (lit≤ tt))) (lit≤ tt)
mosfet_status-few (Err r) = refused-few (refusal_number r)

-- four flags
four-few : (a b c d : List ℕ) (w x y z : Bool) → length a ≤ 19 → length b ≤ 19 → length c ≤ 19 → length d ≤ 19 → Few 168 (flag_line a w ++ flag_line b x ++ flag_line c y ++ flag_line d z)
four-few a b c d w x y z e f g h =
    few-then (few-then (few-then (named-flag a w e) (named-flag b x f)) (named-flag c y g)) (named-flag d z h)

status-few : (a : Result Status Refusal) → Few 7395 (status_text a)
status-few (Ok k) =
    let front =
    few-then
    (few-then
    (few-then
    (named-line (word "cells") k.cells (lit≤ tt))
    (named-line (word "temperature_sensors") k.temperature_sensors (lit≤ tt)))
    (named-flag (word "charger_running") k.charger_running (lit≤ tt)))
    (named-flag (word "load_running") k.load_running (lit≤ tt)) in
    let inputs = four-few (word "di1") (word "di2") (word "di3") (word "di4") k.states.di1 k.states.di2 k.states.di3 k.states.di4 (lit≤ tt) (lit≤ tt) (lit≤ tt) (lit≤ tt) in
    let outputs = four-few (word "do1") (word "do2") (word "do3") (word "do4") k.states.do1 k.states.do2 k.states.do3 k.states.do4 (lit≤ tt) (lit≤ tt) (lit≤ tt) (lit≤ tt) in
    fewer 7395 (few-then (few-then front (few-then inputs outputs)) (named-line (word "cycles") k.cycles (lit≤ tt))) (lit≤ tt)
status-few (Err r) = refused-few (refusal_number r)

cells-few : (s : List ℕ) (n : ℕ) → n < 256 → Few 7395 (cells_text s n)
cells-few s n h =
    list-few (voltages_check s n 255) _ (omega (
      arith,
      each-few cell_line (λ v. omega (arith, line-few (word "cell") v)) (firsts (millivolts_at s) n),
      length-firsts (millivolts_at s) n,
    ))

sensors-few : (s : List ℕ) (n : ℕ) → n < 256 → Few 7395 (sensors_text s n)
sensors-few s n h =
    list-few (temperatures_check s n 255) _ (omega (
      arith,
      each-few sensor_line (signed-line-few (word "sensor")) (firsts (temperature_at s) n),
      length-firsts (temperature_at s) n,
    ))

balance-line-few : (b : Bool) → length (balance_line b) ≤ 29
balance-line-few b = line-few (word "balance") (flag_number b)

balance-few : (s : List ℕ) (n : ℕ) → Few 7395 (balance_text s n)
balance-few s n =
    list-few (balance_check s n 48) _ (omega (
      arith,
      each-few balance_line balance-line-few (firsts (flag_at s) (flag_count n)),
      length-firsts (flag_at s) (flag_count n),
    ))

found-few : (b : Bool) (p : ℕ) → length (cond b (p ∷ []) []) ≤ 1
found-few true p = omega arith
found-few false p = omega arith

by_few : (s : List ℕ) (ts : List Test) → length (faults_by s ts) ≤ length ts
by_few s [] = omega arith
by_few s (t ∷ ts) =
    omega (
      arith,
      by_few s ts,
      found-few (bit (byte_at s t.byte) t.place) t.position,
      length-append (found s t) (faults_by s ts),
    )

faults-count : (s : List ℕ) → length (faults s) ≤ 48
unfolding faults
faults-count s = by_few s fault_tests

faults-few : (s : List ℕ) → Few 7395 (faults_text s)
faults-few s =
    list-few (faults_check s 48) _ (omega (
      arith,
      each-few fault_line (λ v. omega (arith, line-few (word "fault") v)) (faults s),
      faults-count s,
    ))

either_few : (b : Bool) (x y : List ℕ) → Few 7395 x → Few 7395 y → Few 7395 (cond b x y)
either_few true x y h l = h
either_few false x y h l = l

answer-few : (command count : ℕ) (s : List ℕ) → count < 256 → Few 7395 (answer_text command count s)
unfolding answer_text
answer-few command count s h =
    either_few (eqb command 0x90) _ _ (soc-few (decoded_soc_counts s))
    (either_few (eqb command 0x91) _ _ (cell_voltage_range-few (decoded_cell_voltage_range_counts s))
    (either_few (eqb command 0x92) _ _ (temperature_range-few (decoded_temperature_range s))
    (either_few (eqb command 0x93) _ _ (mosfet_status-few (decoded_mosfet_status_counts s))
    (either_few (eqb command 0x94) _ _ (status-few (decoded_status s))
    (either_few (eqb command 0x95) _ _ (cells-few s count h)
    (either_few (eqb command 0x96) _ _ (sensors-few s count h)
    (either_few (eqb command 0x97) _ _ (balance-few s count)
    (either_few (eqb command 0x98) _ _ (faults-few s)
    (refused-few 10)))))))))

named-field : (w : List ℕ) (n : ℕ) → length w ≤ 10 → Few 31 (field w n)
named-field w n h = record { few = omega (arith, field-few w n) }

middle_few : (command : ℕ) (t : Tally) → Few 163 (counts_middle command t)
middle_few command t =
    let reply : Few 6 (word "reply ") = record { few = lit≤ tt } in
    let digits : Few 2 (hex2 command) = record { few = hex2-few command } in
    few-then
    (few-then
    (few-then
    (few-then
    (few-then (few-then reply digits) (named-field (word " taken") t.taken (lit≤ tt)))
    (named-field (word " held") t.held (lit≤ tt)))
    (named-field (word " frames") t.frames (lit≤ tt)))
    (named-field (word " discarded") t.discarded (lit≤ tt)))
    (named-field (word " cleared") t.cleared (lit≤ tt))

counts-few : (command : ℕ) (t : Tally) → Few 319 (counts_text command t)
counts-few command t =
    let end : Few 1 newline = record { few = lit≤ tt } in
    few-then
    (few-then
    (few-then
    (few-then
    (few-then
    (few-then (middle_few command t) (named-field (word " noise") t.noise (lit≤ tt)))
    (named-field (word " sum") t.sum (lit≤ tt)))
    (named-field (word " command") t.command (lit≤ tt)))
    (named-field (word " number") t.number (lit≤ tt)))
    (named-field (word " echo") t.echo (lit≤ tt)))
    end

pub report-few : (command count : ℕ) (t : Tally) (s : List ℕ) (status : ℕ) → count < 256 → length (report_text command count t s status) ≤ 8192
report-few command count t s status h =
    let answer = either_few (eqb status 2) (refused_line 2) (answer_text command count s) (refused-few 2) (answer-few command count s h) in
    (fewer 8192 (few-then (counts-few command t) answer) (lit≤ tt)).few

-- so 8,192 bytes hold it whole: its length is what is answered, and the text stands at the front
pub report-whole : {out exit : List ℕ} {r : ℕ} (command count : ℕ) (t : Tally) (s : List ℕ) (status : ℕ) → count < 256 → 8192 ≤ length out → Put out 0 (report_text command count t s status) exit r → (r ≡ length (report_text command count t s status)) × (take r exit ≡ report_text command count t s status)
report-whole command count t s status h l p =
    let few = report-few command count t s status h in put_whole p (omega arith) (omega arith)
