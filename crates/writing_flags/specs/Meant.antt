-- Document 02, K2, "Replies for the bench": which faults the 48 flags of a 98 reply mean, as the decoder is to list them. Definitions only.
use Rattle.std.specs.Prelude.{ℕ, Bool, false, cond, List, [], ◌∷◌, ◌++◌, map, get_or}
use Rattle.flags.specs.Faults.{fault_tests}

-- of these positions, those whose flag is set
abbrev pub set_among : List Bool → List ℕ → List ℕ
set_among flags [] = []
set_among flags (p ∷ ps) = cond (get_or flags p false) (p ∷ []) [] ++ set_among flags ps

-- document 01, module 4: "in the order in which `decode` tests them, written as positions"
unfoldable pub set_faults : List Bool → List ℕ
set_faults flags = set_among flags (map (λ t. t.position) fault_tests)
