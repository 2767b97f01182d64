-- Document 01, "Numbers to check": P1 to P14 as one statement, over the definitions that the contracts cite. Definitions only.
use Rattle.std.specs.Prelude.{ℕ, ◌≡◌, Bool, true, false, List, [], ◌∷◌, ◌++◌, ℤ, pos, neg_ℤ, replicate, Result, Ok, Err}
use Rattle.std.specs.Float.{nan, inf, binary32}
use Rattle.std.specs.Float.Ieee.{of_bits, to_bits, round}
use Rattle.frame.specs.declared.refusal.Refusal.{Refusal}
use Rattle.frame.specs.declared.refusal.Refusal.TheVariants.{CheckSumError}
use Rattle.frame.specs.Refusals.{refusal_number}
use Rattle.frame.specs.Frame.{frame}
use Rattle.units.specs.Floats.{nearest}
use Rattle.units.specs.SetSoc.{set_soc_count}
use Rattle.request.specs.Requests.{read_request, set_soc_request}
use Rattle.soc.specs.Soc.{decoded_soc_counts}
use Rattle.temperature_range.specs.TemperatureRange.{temperature_of}
use Rattle.flags.specs.Balance.{flag_count}
use Rattle.flags.specs.Faults.{faults}
use Rattle.rules.specs.Reader.{Answer, all_of, fresh, answer, completeness}
use Rattle.pack.specs.declared.PackCheck.{PackCheck}
use Rattle.pack.specs.Pack.{pack_answer}

-- "the frame in the input above"
abbrev pub soc : List ℕ
soc = 0xA5 ∷ 0x01 ∷ 0x90 ∷ 0x08 ∷ 0x02 ∷ 0x0B ∷ 0x00 ∷ 0x00 ∷ 0x74 ∷ 0xB7 ∷ 0x03 ∷ 0x6A ∷ 0xE3 ∷ []

-- a valid 95 frame of this number
abbrev pub cells : ℕ → List ℕ
cells number = frame 1 0x95 (number ∷ 0 ∷ 0 ∷ 0 ∷ 0 ∷ 0 ∷ 0 ∷ 0 ∷ [])

-- what P11 to P13 tell of an answer: completeness, status, cleared, discarded, taken
pub record Told : Type 0 where
  pub complete : Bool
  pub status : ℕ
  pub cleared : ℕ
  pub discarded : ℕ
  pub taken : ℕ

abbrev pub told : Answer → Told
told a =
    record {
      complete = completeness a.reader;
      status = a.status;
      cleared = a.reader.cleared;
      discarded = all_of a.reader.discarded;
      taken = a.reader.taken;
    }

abbrev pub read : ℕ → ℕ → List ℕ → Told
read command wanted stream = told (answer (fresh record { command = command; wanted = wanted; strict = false }) stream)

abbrev pub weighed : ℤ → Bool → Result PackCheck Refusal
weighed difference agrees = Ok record { difference = difference; agrees = agrees }

pub record Numbers : Type 0 where
  -- "`Soc` request: A5 40 90 08, eight zeros, 7D"
  pub p1 : read_request 0x90 ≡ 0xA5 ∷ 0x40 ∷ 0x90 ∷ 0x08 ∷ 0 ∷ 0 ∷ 0 ∷ 0 ∷ 0 ∷ 0 ∷ 0 ∷ 0 ∷ 0x7D ∷ []
  -- "`SetSoc` 0.25 sends 3, sum 11 (hexadecimal); 50.5 sends 01 F9, sum 08"
  pub p2 :
      (set_soc_request (round binary32 false 1 4) ≡ 0xA5 ∷ 0x40 ∷ 0x21 ∷ 0x08 ∷ 0 ∷ 0 ∷ 0 ∷ 0 ∷ 0 ∷ 0 ∷ 0x00 ∷ 0x03 ∷ 0x11 ∷ [])
      × (set_soc_request (round binary32 false 101 2) ≡ 0xA5 ∷ 0x40 ∷ 0x21 ∷ 0x08 ∷ 0 ∷ 0 ∷ 0 ∷ 0 ∷ 0 ∷ 0 ∷ 0x01 ∷ 0xF9 ∷ 0x08 ∷ [])
  -- "f32 bits 3D4CCCCC send 0"
  pub p3 : set_soc_count (of_bits binary32 0x3D4C_CCCC) ≡ 0
  -- "bits 3D4CCCCD send 1"
  pub p4 : set_soc_count (of_bits binary32 0x3D4C_CCCD) ≡ 1
  -- "NaN 0, infinity 1000, −0.04 gives 0"
  pub p5 : (set_soc_count nan ≡ 0) × (set_soc_count (inf false) ≡ 1000) × (set_soc_count (round binary32 true 4 100) ≡ 0)
  -- "the frame in the input above: counts 523, −121, 874. With a 00 appended it is refused 3."
  pub p6 :
      (decoded_soc_counts soc ≡ Ok record { total_voltage = 523; current = neg_ℤ (pos 121); soc_percent = 874 })
      × (decoded_soc_counts (soc ++ (0x00 ∷ [])) ≡ Err CheckSumError)
      × (refusal_number CheckSumError ≡ 3)
  -- "temperature byte 167 is 127, 168 is −128, 255 is −41"
  pub p7 : (temperature_of 167 ≡ pos 127) × (temperature_of 168 ≡ neg_ℤ (pos 128)) × (temperature_of 255 ≡ neg_ℤ (pos 41))
  -- "capacity count 16,777,219 becomes 16,777,220 before division; 16,777,217 becomes 16,777,216"
  -- as f32 these are 4B800002, which is 2 ^ 24 + 2 * 2, and 4B800000, which is 2 ^ 24
  pub p8 :
      (to_bits binary32 (nearest (pos 16_777_219)) ≡ 0x4B80_0002) × (to_bits binary32 (nearest (pos 16_777_220)) ≡ 0x4B80_0002)
      × (to_bits binary32 (nearest (pos 16_777_217)) ≡ 0x4B80_0000) × (to_bits binary32 (nearest (pos 16_777_216)) ≡ 0x4B80_0000)
  -- "balance with n = 0: one flag; n = 49: 48"
  pub p9 : (flag_count 0 ≡ 1) × (flag_count 49 ≡ 48)
  -- "byte 6 of a 98 reply being 03 lists position 17, then 16"
  pub p10 : faults (frame 1 0x98 (0 ∷ 0 ∷ 0x03 ∷ 0 ∷ 0 ∷ 0 ∷ 0 ∷ 0 ∷ [])) ≡ 17 ∷ 16 ∷ []
  -- "valid frames 1, 2, 1, 2, 3 with n = 3: complete, cleared 2, discarded 0, taken 65"
  pub p11 : read 0x95 3 (cells 1 ++ cells 2 ++ cells 1 ++ cells 2 ++ cells 3) ≡ record { complete = true; status = 0; cleared = 2; discarded = 0; taken = 65 }
  -- "512 zero bytes, then the wanted frame: complete, 0"
  pub p12 : read 0x90 1 (replicate 512 0 ++ soc) ≡ record { complete = true; status = 0; cleared = 0; discarded = 512; taken = 525 }
  -- "513 zeros: complete, 2"
  pub p13 : read 0x90 1 (replicate 513 0 ++ soc) ≡ record { complete = true; status = 2; cleared = 0; discarded = 513; taken = 526 }
  -- "cells summing to 13,050 against 131: −50, yes; 13,049: no"
  pub p14 :
      (pack_answer (3262 ∷ 3262 ∷ 3263 ∷ 3263 ∷ []) 131 ≡ weighed (neg_ℤ (pos 50)) true)
      × (pack_answer (3262 ∷ 3262 ∷ 3262 ∷ 3263 ∷ []) 131 ≡ weighed (neg_ℤ (pos 51)) false)
