-- Document 01, module 4, balance. Definitions only.
use Rattle.std.specs.Prelude.{ℕ, ◌+◌, ◌%◌, ◌/◌, min, max, Bool, List, length, Result}
use Rattle.wire.specs.Bytes.{byte_at, bit}
use Rattle.wire.specs.Lists.{firsts}
use Rattle.frame.specs.declared.refusal.Refusal.{Refusal}
use Rattle.frame.specs.Refusals.{Check}
use Rattle.frame.specs.Checks.{frame_check}
use Rattle.list.specs.Listed.{gate, Stores}

-- "n = 0 yields one flag, n above 48 yields 48"
abbrev pub flag_count : ℕ → ℕ
flag_count n = max 1 (min n 48)

-- "48 flags from byte 4, lowest bit first": flag i, from 0
abbrev pub flag_at : List ℕ → ℕ → Bool
flag_at s i = bit (byte_at s (4 + i / 8)) (i % 8)

-- 1, then 9 "balance max(1, min(n, 48))", then the frame: 2, 3
abbrev pub balance_check : List ℕ → ℕ → ℕ → Check
balance_check s n room = gate 13 (flag_count n) room s (frame_check 0x97 s)

-- the statement: of the reply s and the count n, the lent places before and after, and the answer
abbrev pub DecodesBalance : List ℕ → ℕ → List Bool → Result ℕ Refusal → List Bool → Type 0
DecodesBalance s n out r exit = Stores (balance_check s n (length out)) (firsts (flag_at s) (flag_count n)) out r exit
