-- Document 01, module 3: the 93 reply. Definitions only.
use Rattle.std.specs.Prelude.{ℕ, ◌≡◌, cond, List, ltb, eqb, pos, Float, Result, Ok, Err}
use Rattle.wire.specs.Bytes.{byte_at, count4}
use Rattle.frame.specs.declared.refusal.Refusal.{Refusal}
use Rattle.frame.specs.declared.refusal.Refusal.TheVariants.{UnknownMode}
use Rattle.frame.specs.Refusals.{Check, sound, refuse, then}
use Rattle.frame.specs.Checks.{frame_check}
use Rattle.units.specs.Floats.{thousandths}
use Rattle.frame.specs.Reply.{answer, flag}
use Rattle.mosfet_status.specs.declared.MosfetMode.{MosfetMode}
use Rattle.mosfet_status.specs.declared.MosfetMode.TheVariants.{Stationary, Charging, Discharging}
use Rattle.mosfet_status.specs.declared.MosfetStatus.{MosfetStatus}

-- antt has no name for an alias
abbrev pub MosfetStatusCounts : Type 0
MosfetStatusCounts = MosfetStatus ℕ

abbrev pub MosfetStatusRecord : Type 0
MosfetStatusRecord = MosfetStatus Float

-- "One-frame replies: 2, 3, 5", after 1. 5: "byte 4 of a 93 reply over 2"
unfoldable pub mosfet_check : List ℕ → Check
mosfet_check s = then (frame_check 0x93 s) (refuse (ltb 2 (byte_at s 4)) UnknownMode sound)

-- what the frame check refuses is refused so: a law, which stands here since a source of this crate cites none from proofs/
pub mosfet_refuses : (s : List ℕ) (r : Refusal) → frame_check 0x93 s ≡ Err r → mosfet_check s ≡ Err r
unfolding mosfet_check
mosfet_refuses s r e = rw e

-- the mode "0 to 2", in document 000's order; a byte over 2 is refused
abbrev pub mode_of : ℕ → MosfetMode
mode_of byte = cond (eqb byte 0) Stationary (cond (eqb byte 1) Charging Discharging)

-- the mode of any byte, or the refusal of one over 2
abbrev pub checked_mode : ℕ → Result MosfetMode Refusal
checked_mode byte = answer (refuse (ltb 2 byte) UnknownMode sound) (mode_of byte)

-- "the mode 0 to 2", as it is told in a number
abbrev pub mode_number : MosfetMode → ℕ
mode_number Stationary = 0
mode_number Charging = 1
mode_number Discharging = 2

-- "Capacity is a four-byte count"
abbrev pub mosfet_status_counts : List ℕ → MosfetStatusCounts
mosfet_status_counts s = record {
  mode = mode_of (byte_at s 4);
  charging_mosfet = flag (byte_at s 5);
  discharging_mosfet = flag (byte_at s 6);
  bms_cycles = byte_at s 7;
  capacity_ah = count4 s 8;
}

-- "first rounded to the nearest f32 with ties to even, then divided by 1000.0"
abbrev pub mosfet_status_of : MosfetStatusCounts → MosfetStatusRecord
mosfet_status_of k = record {
  mode = k.mode;
  charging_mosfet = k.charging_mosfet;
  discharging_mosfet = k.discharging_mosfet;
  bms_cycles = k.bms_cycles;
  capacity_ah = thousandths (pos k.capacity_ah);
}

-- refusals 1, 2, 3, 5, else the counts
abbrev pub decoded_mosfet_status_counts : List ℕ → Result MosfetStatusCounts Refusal
decoded_mosfet_status_counts s = answer (mosfet_check s) (mosfet_status_counts s)

-- the record of the counts; a refusal stays
abbrev pub mosfet_status_answer : Result MosfetStatusCounts Refusal → Result MosfetStatusRecord Refusal
mosfet_status_answer (Ok k) = Ok (mosfet_status_of k)
mosfet_status_answer (Err r) = Err r

abbrev pub decoded_mosfet_status : List ℕ → Result MosfetStatusRecord Refusal
decoded_mosfet_status s = mosfet_status_answer (decoded_mosfet_status_counts s)
