-- Document 01, module 2, "Requests". Definitions only.
use Rattle.std.specs.Prelude.{ℕ, Bool, true, false, List, [], ◌∷◌, Float}
use Rattle.wire.specs.Bytes.{high_byte, low_byte}
use Rattle.frame.specs.Frame.{frame}
use Rattle.units.specs.SetSoc.{set_soc_count}

-- "Requests carry address 40 (hexadecimal)"; bytes is the eight data bytes, which stand at 4 to 11 of the frame
abbrev pub request : ℕ → List ℕ → List ℕ
request command bytes = frame 0x40 command bytes

-- "and zero data unless stated"
abbrev pub read_request : ℕ → List ℕ
read_request command = request command (0 ∷ 0 ∷ 0 ∷ 0 ∷ 0 ∷ 0 ∷ 0 ∷ 0 ∷ [])

-- "data byte 4 is 1 to enable"
abbrev pub switch_byte : Bool → ℕ
switch_byte true = 1
switch_byte false = 0

abbrev pub switch_request : ℕ → Bool → List ℕ
switch_request command enable = request command (switch_byte enable ∷ 0 ∷ 0 ∷ 0 ∷ 0 ∷ 0 ∷ 0 ∷ 0 ∷ [])

-- "The result goes high byte first to bytes 10 and 11."
abbrev pub count_request : ℕ → ℕ → List ℕ
count_request command count = request command (0 ∷ 0 ∷ 0 ∷ 0 ∷ 0 ∷ 0 ∷ high_byte count ∷ low_byte count ∷ [])

-- "`SetSoc` 21"
abbrev pub set_soc_request : Float → List ℕ
set_soc_request percent = count_request 0x21 (set_soc_count percent)
