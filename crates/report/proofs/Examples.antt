-- Document 01's example of `readreply`, whole, and a reply of each command, worked out over the definitions that the contract cites.
-- Assumes nothing.
use mathlib.Core.Path.{◌≡◌, refl}
use mathlib.Core.List.{List, [], ◌∷◌, ◌++◌}
use Prim.Native.Nat.{ℕ}
use Rattle.frame.specs.Frame.{total, sum, summed, frame}
use Rattle.frame.specs.Checks.{sum_of, len_check, header_check, checksum_check, frame_check}
use Rattle.mosfet_status.specs.MosfetStatus.{mosfet_check}
use Rattle.list.specs.Listed.{gate}
use Rattle.list.specs.Numbered.{judge, judged}
use Rattle.flags.specs.Faults.{faults}
use Rattle.text.specs.Words.{word}
use Rattle.text.specs.Text.{decimal, signed, hex2, shown_field, shown_line}
use Rattle.report.specs.declared.Tally.{Tally}
use Rattle.report.specs.Report.{counts_text, answer_text, report_text}

-- the frame of P6, and what its reader counted: two bytes discarded before it
abbrev pub p6 : List ℕ
p6 = 0xA5 ∷ 0x01 ∷ 0x90 ∷ 0x08 ∷ 0x02 ∷ 0x0B ∷ 0x00 ∷ 0x00 ∷ 0x74 ∷ 0xB7 ∷ 0x03 ∷ 0x6A ∷ 0xE3 ∷ []

abbrev pub counted : Tally
counted = record { taken = 15; held = 0; frames = 1; discarded = 2; cleared = 0; noise = 1; sum = 1; command = 0; number = 0; echo = 0 }

-- "Input `90 00 00 A5 A5 01 90 08 02 0B 00 00 74 B7 03 6A E3` prints, whole"
pub example :
    report_text 0x90 0 counted p6 0
    ≡ word "reply 90 taken 15 held 0 frames 1 discarded 2 cleared 0 noise 1 sum 1 command 0 number 0 echo 0\ntotal_voltage 523\ncurrent -121\nsoc_percent 874\n"
unfolding total sum sum_of len_check header_check checksum_check frame_check decimal signed hex2 shown_field shown_line answer_text
example = refl

-- (document 02, K3) each count behind its name, in this order
pub counts-line :
    counts_text 0x95 (record { taken = 9; held = 8; frames = 7; discarded = 6; cleared = 5; noise = 4; sum = 3; command = 2; number = 1; echo = 10 })
    ≡ word "reply 95 taken 9 held 8 frames 7 discarded 6 cleared 5 noise 4 sum 3 command 2 number 1 echo 10\n"
unfolding decimal hex2 shown_field
counts-line = refl

-- "With a 00 appended it is refused 3"; a status of 2 stands before any field; nothing collected is refused 1
pub refusals :
    ◌≡◌ {A = List (List ℕ)}
    (report_text 0x90 0 counted (p6 ++ (0 ∷ [])) 0
    ∷ report_text 0x90 0 counted p6 2
    ∷ report_text 0x90 0 counted [] 0
    ∷ report_text 0x99 0 counted p6 0
    ∷ [])
    (word "reply 90 taken 15 held 0 frames 1 discarded 2 cleared 0 noise 1 sum 1 command 0 number 0 echo 0\nrefused 3\n"
    ∷ word "reply 90 taken 15 held 0 frames 1 discarded 2 cleared 0 noise 1 sum 1 command 0 number 0 echo 0\nrefused 2\n"
    ∷ word "reply 90 taken 15 held 0 frames 1 discarded 2 cleared 0 noise 1 sum 1 command 0 number 0 echo 0\nrefused 1\n"
    ∷ word "reply 99 taken 15 held 0 frames 1 discarded 2 cleared 0 noise 1 sum 1 command 0 number 0 echo 0\nrefused 10\n"
    ∷ [])
unfolding total sum sum_of len_check header_check checksum_check frame_check decimal signed hex2 shown_field shown_line answer_text
refusals = refl

-- the other replies, of the board's address
abbrev pub reply : ℕ → List ℕ → List ℕ
unfolding total sum summed frame
reply command bytes = frame 1 command bytes

pub answers :
    ◌≡◌ {A = List (List ℕ)}
    (answer_text 0x91 0 (reply 0x91 (0x0C ∷ 0xF5 ∷ 3 ∷ 0x0C ∷ 0xE4 ∷ 12 ∷ 0 ∷ 0 ∷ []))
    ∷ answer_text 0x92 0 (reply 0x92 (168 ∷ 1 ∷ 255 ∷ 2 ∷ 0 ∷ 0 ∷ 0 ∷ 0 ∷ []))
    ∷ answer_text 0x93 0 (reply 0x93 (2 ∷ 0 ∷ 7 ∷ 9 ∷ 0x01 ∷ 0x00 ∷ 0x00 ∷ 0x03 ∷ []))
    ∷ answer_text 0x93 0 (reply 0x93 (3 ∷ 0 ∷ 7 ∷ 9 ∷ 0x01 ∷ 0x00 ∷ 0x00 ∷ 0x03 ∷ []))
    ∷ answer_text 0x94 0 (reply 0x94 (16 ∷ 2 ∷ 0 ∷ 255 ∷ 0x85 ∷ 0x01 ∷ 0x02 ∷ 0 ∷ []))
    ∷ answer_text 0x95 2 (reply 0x95 (1 ∷ 0x0C ∷ 0xE5 ∷ 0x0C ∷ 0xE6 ∷ 0 ∷ 0 ∷ 0 ∷ []))
    ∷ answer_text 0x95 0 []
    ∷ answer_text 0x95 1 (reply 0x96 (2 ∷ 0x0C ∷ 0xE5 ∷ 0 ∷ 0 ∷ 0 ∷ 0 ∷ 0 ∷ []))
    ∷ answer_text 0x96 3 (reply 0x96 (1 ∷ 40 ∷ 0 ∷ 255 ∷ 0 ∷ 0 ∷ 0 ∷ 0 ∷ []))
    ∷ answer_text 0x97 3 (reply 0x97 (5 ∷ 0 ∷ 0 ∷ 0 ∷ 0 ∷ 0 ∷ 0 ∷ 0 ∷ []))
    ∷ answer_text 0x98 0 (reply 0x98 (0 ∷ 0 ∷ 3 ∷ 0 ∷ 0 ∷ 0 ∷ 0 ∷ 0 ∷ []))
    ∷ [])
    (word "highest_voltage 3317\nhighest_cell 3\nlowest_voltage 3300\nlowest_cell 12\n"
    ∷ word "highest_temperature -128\nhighest_sensor 1\nlowest_temperature -41\nlowest_sensor 2\n"
    ∷ word "mode 2\ncharging_mosfet 0\ndischarging_mosfet 1\nbms_cycles 9\ncapacity_ah 16777219\n"
    ∷ word "refused 5\n"
    ∷ word "cells 16\ntemperature_sensors 2\ncharger_running 0\nload_running 1\ndi1 1\ndi2 0\ndi3 1\ndi4 0\ndo1 0\ndo2 0\ndo3 0\ndo4 1\ncycles 258\n"
    ∷ word "cell 3301\ncell 3302\n"
    ∷ []
    -- 4 before 2
    ∷ word "refused 4\n"
    ∷ word "sensor 0\nsensor -40\nsensor 215\n"
    ∷ word "balance 1\nbalance 0\nbalance 1\n"
    -- P10
    ∷ word "fault 17\nfault 16\n"
    ∷ [])
unfolding total sum summed frame sum_of len_check header_check checksum_check frame_check mosfet_check gate judge judged faults decimal signed shown_field shown_line answer_text
answers = refl
