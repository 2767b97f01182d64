-- Document 01, module 4, faults: "48, in the order in which `decode` tests them, written as positions in `ErrorCode` from 0". Definitions only.
use Rattle.std.specs.Prelude.{ℕ, ◌+◌, cond, List, [], ◌∷◌, ◌++◌, length, Result}
use Rattle.wire.specs.Bytes.{byte_at, bit}
use Rattle.wire.specs.Lists.{firsts}
use Rattle.frame.specs.declared.refusal.Refusal.{Refusal}
use Rattle.frame.specs.Refusals.{Check}
use Rattle.frame.specs.Checks.{frame_check}
use Rattle.list.specs.Listed.{gate, Stores}

-- one of the 48 tests: a bit of a byte of the reply, and the fault's position
pub record Test : Type 0 where
  pub byte : ℕ
  pub place : ℕ
  pub position : ℕ

abbrev pub test : ℕ → ℕ → ℕ → Test
test b k p = record { byte = b; place = k; position = p }

-- n tests of byte b: bits k, k + 1, .. are the positions p, p + 1, ..
abbrev pub run : ℕ → ℕ → ℕ → ℕ → List Test
run b k p n = firsts (λ i. test b (k + i) (p + i)) n

-- the 48 tests, in the Rust's order: "byte 6 .. lists position 17, then 16"
abbrev pub fault_tests : List Test
fault_tests =
    run 4 0 0 8
    ++ run 5 0 8 8
    ++ run 6 1 17 1
    ++ run 6 0 16 1
    ++ run 6 2 18 6
    ++ run 7 0 24 4
    ++ run 8 0 28 8
    ++ run 9 0 36 8
    ++ run 10 0 44 4

-- what a test adds to the list: its position, where its bit is set
abbrev pub found : List ℕ → Test → List ℕ
found s t = cond (bit (byte_at s t.byte) t.place) (t.position ∷ []) []

-- the positions of the tests whose bit is set, in the tests' order
abbrev pub faults_by : List ℕ → List Test → List ℕ
faults_by s [] = []
faults_by s (t ∷ ts) = found s t ++ faults_by s ts

unfoldable pub faults : List ℕ → List ℕ
faults s = faults_by s fault_tests

-- 1, then 9 "faults need 48 places", then the frame: 2, 3
abbrev pub faults_check : List ℕ → ℕ → Check
faults_check s room = gate 13 48 room s (frame_check 0x98 s)

-- the statement: of the reply s, the lent places before and after, and the answer
abbrev pub DecodesFaults : List ℕ → List ℕ → Result ℕ Refusal → List ℕ → Type 0
DecodesFaults s out r exit = Stores (faults_check s (length out)) (faults s) out r exit
