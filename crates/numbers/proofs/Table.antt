-- Document 01's numbers hold, by computation. Assumes nothing.
use mathlib.Core.Path.{◌≡◌, refl}
use mathlib.Core.Bool.{true, false}
use mathlib.Core.List.{[], ◌∷◌, ◌++◌}
use lib.IntN.{pos, neg_ℤ}
use lib.Ieee.{nan, inf, binary32, of_bits, to_bits, of_int, round}
use lib.ListN.{replicate}
use Rattle.std.proofs.Common.{Ok, Err}
use Rattle.frame.specs.declared.refusal.Refusal.TheVariants.{CheckSumError}
use Rattle.frame.specs.Refusals.{refusal_number}
use Rattle.frame.specs.Frame.{total, sum, summed, frame}
use Rattle.frame.specs.Checks.{sum_of, len_check, header_check, checksum_check, frame_check}
use Rattle.units.specs.Floats.{nearest}
use Rattle.units.specs.SetSoc.{set_soc_count}
use Rattle.request.specs.Requests.{set_soc_request}
use Rattle.soc.specs.Soc.{decoded_soc_counts}
use Rattle.flags.specs.Faults.{faults}
use Rattle.rules.specs.Rules.{sum_right, restarts, judge, look, stay, after, drops}
use Rattle.rules.specs.Ledger.{turns, run, total as counted, lost_for}
use Rattle.rules.specs.Reader.{complete, held_of, untaken, did, booked, push, status, bad, answer, completeness}
use Rattle.pack.specs.Pack.{difference, pack_answer}
use Rattle.numbers.specs.Numbers.{Numbers, soc, cells, read, weighed}

p1-frame : frame 0x40 0x90 (0 ∷ 0 ∷ 0 ∷ 0 ∷ 0 ∷ 0 ∷ 0 ∷ 0 ∷ []) ≡ 0xA5 ∷ 0x40 ∷ 0x90 ∷ 0x08 ∷ 0 ∷ 0 ∷ 0 ∷ 0 ∷ 0 ∷ 0 ∷ 0 ∷ 0 ∷ 0x7D ∷ []
unfolding frame summed sum total
p1-frame = refl

p2_quarter : set_soc_request (round binary32 false 1 4) ≡ 0xA5 ∷ 0x40 ∷ 0x21 ∷ 0x08 ∷ 0 ∷ 0 ∷ 0 ∷ 0 ∷ 0 ∷ 0 ∷ 0x00 ∷ 0x03 ∷ 0x11 ∷ []
unfolding frame summed sum total set_soc_count round
p2_quarter = refl

p2_half : set_soc_request (round binary32 false 101 2) ≡ 0xA5 ∷ 0x40 ∷ 0x21 ∷ 0x08 ∷ 0 ∷ 0 ∷ 0 ∷ 0 ∷ 0 ∷ 0 ∷ 0x01 ∷ 0xF9 ∷ 0x08 ∷ []
unfolding frame summed sum total set_soc_count round
p2_half = refl

p3-p4 : (set_soc_count (of_bits binary32 0x3D4C_CCCC) ≡ 0) × (set_soc_count (of_bits binary32 0x3D4C_CCCD) ≡ 1)
unfolding set_soc_count of_bits
p3-p4 = (refl, refl)

p5-all : (set_soc_count nan ≡ 0) × (set_soc_count (inf false) ≡ 1000) × (set_soc_count (round binary32 true 4 100) ≡ 0)
unfolding set_soc_count round
p5-all = (refl, refl, refl)

p6-both :
    (decoded_soc_counts soc ≡ Ok record { total_voltage = 523; current = neg_ℤ (pos 121); soc_percent = 874 })
    × (decoded_soc_counts (soc ++ (0x00 ∷ [])) ≡ Err CheckSumError)
    × (refusal_number CheckSumError ≡ 3)
unfolding frame_check len_check header_check checksum_check sum_of sum total
p6-both = (refl, refl, refl)

p8-bits :
    (to_bits binary32 (nearest (pos 16_777_219)) ≡ 0x4B80_0002) × (to_bits binary32 (nearest (pos 16_777_220)) ≡ 0x4B80_0002)
    × (to_bits binary32 (nearest (pos 16_777_217)) ≡ 0x4B80_0000) × (to_bits binary32 (nearest (pos 16_777_216)) ≡ 0x4B80_0000)
unfolding of_int to_bits
p8-bits = (refl, refl, refl, refl)

p10-list : faults (frame 1 0x98 (0 ∷ 0 ∷ 0x03 ∷ 0 ∷ 0 ∷ 0 ∷ 0 ∷ 0 ∷ [])) ≡ 17 ∷ 16 ∷ []
unfolding faults frame summed sum total
p10-list = refl

p11-read : read 0x95 3 (cells 1 ++ cells 2 ++ cells 1 ++ cells 2 ++ cells 3) ≡ record { complete = true; status = 0; cleared = 2; discarded = 0; taken = 65 }
unfolding frame summed sum total sum_right restarts judge look stay after drops turns run counted lost_for complete held_of untaken did booked push status bad answer completeness
p11-read = refl

p12-read : read 0x90 1 (replicate 512 0 ++ soc) ≡ record { complete = true; status = 0; cleared = 0; discarded = 512; taken = 525 }
unfolding sum total sum_right restarts judge look stay after drops turns run counted lost_for complete held_of untaken did booked push status bad answer completeness
p12-read = refl

p13-read : read 0x90 1 (replicate 513 0 ++ soc) ≡ record { complete = true; status = 2; cleared = 0; discarded = 513; taken = 526 }
unfolding sum total sum_right restarts judge look stay after drops turns run counted lost_for complete held_of untaken did booked push status bad answer completeness
p13-read = refl

p14-both :
    (pack_answer (3262 ∷ 3262 ∷ 3263 ∷ 3263 ∷ []) 131 ≡ weighed (neg_ℤ (pos 50)) true)
    × (pack_answer (3262 ∷ 3262 ∷ 3262 ∷ 3263 ∷ []) 131 ≡ weighed (neg_ℤ (pos 51)) false)
unfolding pack_answer difference total
p14-both = (refl, refl)

pub numbers : Numbers
numbers =
    record {
      p1 = p1-frame;
      p2 = (p2_quarter, p2_half);
      p3 = p3-p4.0;
      p4 = p3-p4.1;
      p5 = p5-all;
      p6 = p6-both;
      p7 = (refl, refl, refl);
      p8 = p8-bits;
      p9 = (refl, refl);
      p10 = p10-list;
      p11 = p11-read;
      p12 = p12-read;
      p13 = p13-read;
      p14 = p14-both;
    }
