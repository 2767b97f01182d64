-- Worked answers: what is meant by 90, 93 and 95, and the temperatures that an i8 has. Assumes nothing.
use Prim.Native.Nat.{ℕ}
use mathlib.Core.Path.{◌≡◌, refl}
use mathlib.Core.Bool.{true, false}
use mathlib.Core.List.{[], ◌∷◌, map}
use native.Mathlib.Omega.{arith}
use lib.IntN.{pos, negsuc}
use lib.Ieee.{of_int, div}
use Rattle.units.specs.Floats.{nearest}
use Rattle.mosfet_status.specs.declared.MosfetMode.TheVariants.{Stationary, Charging, Discharging}
use Rattle.writing.specs.declared.MosfetStatusWire.{MosfetStatusWire}
use Rattle.readback.specs.Meant.{soc_meant, IsI8, mosfet_status_meant, volts_meant}

-- document 01's example: 52.3 V, −12.1 A, 87.4 %
soc : soc_meant (record { total_voltage = 523; current = 29879; soc_percent = 874 }) ≡ record { total_voltage = 523; current = negsuc 120; soc_percent = 874 }
soc = refl

abbrev switched : ℕ → MosfetStatusWire
switched mode = record { mode = mode; charging_mosfet = true; discharging_mosfet = false; bms_cycles = 7; capacity_ah = 70000 }

mosfets : map mosfet_status_meant (switched 0 ∷ switched 1 ∷ switched 2 ∷ [])
    ≡ record { mode = Stationary; charging_mosfet = true; discharging_mosfet = false; bms_cycles = 7; capacity_ah = 70000 }
    ∷ record { mode = Charging; charging_mosfet = true; discharging_mosfet = false; bms_cycles = 7; capacity_ah = 70000 }
    ∷ record { mode = Discharging; charging_mosfet = true; discharging_mosfet = false; bms_cycles = 7; capacity_ah = 70000 }
    ∷ []
mosfets = refl

volts : volts_meant (3000 ∷ 0 ∷ 65000 ∷ []) ≡ nearest (pos 3) ∷ nearest (pos 0) ∷ nearest (pos 65) ∷ []
unfolding of_int div
volts = refl

-- −128 and 127 are the ends, and 0 and −1 lie between them
ends : IsI8 (negsuc 127) × IsI8 (negsuc 0) × IsI8 (pos 0) × IsI8 (pos 127)
ends = (omega arith, omega arith, omega arith, omega arith)

past : (IsI8 (negsuc 128) → ⊥) × (IsI8 (pos 128) → ⊥)
past = ((λ h. omega (arith, h)), (λ h. omega (arith, h)))
