-- Document 02, K2: what a written reply means, where the decoder's record is not what the writer was given. Definitions only.
use Rattle.std.specs.Prelude.{ℕ, ◌≤◌, List, map, ℤ, pos, negsuc, Float}
use Rattle.units.specs.Floats.{thousandths, current_count}
use Rattle.soc.specs.Soc.{SocCounts}
use Rattle.mosfet_status.specs.MosfetStatus.{MosfetStatusCounts, mode_of}
use Rattle.writing.specs.declared.SocWire.{SocWire}
use Rattle.writing.specs.declared.MosfetStatusWire.{MosfetStatusWire}

-- 90: the current is the wire's count less 30,000
abbrev pub soc_meant : SocWire → SocCounts
soc_meant k = record {
  total_voltage = k.total_voltage;
  current = current_count k.current;
  soc_percent = k.soc_percent;
}

-- 92: "all 256 values of i8", −128 to 127
abbrev pub IsI8 : ℤ → Type 0
IsI8 (pos n) = n ≤ 127
IsI8 (negsuc n) = n ≤ 127

-- 93: the mode has a name
abbrev pub mosfet_status_meant : MosfetStatusWire → MosfetStatusCounts
mosfet_status_meant k = record {
  mode = mode_of k.mode;
  charging_mosfet = k.charging_mosfet;
  discharging_mosfet = k.discharging_mosfet;
  bms_cycles = k.bms_cycles;
  capacity_ah = k.capacity_ah;
}

-- 95: millivolts as volts, "floats as in document 01"
abbrev pub volts_meant : List ℕ → List Float
volts_meant cells = map (λ (millivolts : ℕ). thousandths (pos millivolts)) cells
