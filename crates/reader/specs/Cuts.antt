-- Demand 3, "Cuts don't matter", of the code: of every function whose contract is `Answered`. Definitions only.
use Rattle.std.specs.Prelude.{ℕ, ◌≤◌, Bool, List, [], ◌∷◌}
use Rattle.rules.specs.Reader.{joined}
use Rattle.rules.specs.Demand.{Demand}
use Rattle.reader.specs.View.{config, view, Answered}
use Rattle.reader.specs.Told.{fresh_counts}
use Rattle.reader.specs.declared.Counts.{Counts}

-- chunks pushed one after the other, the last answered by a status and the bytes taken
abbrev pub Fed : List ℕ → List (List ℕ) → Counts → List ℕ → ℕ → ℕ → Counts → List ℕ → Type 0
Fed s [] c f status took c' f' = Answered f c s status took c' f'
Fed s (t ∷ ts) c f status took c' f' =
    (c₁ : Counts) × (f₁ : List ℕ) × (status₁ : ℕ) × (took₁ : ℕ) × Answered f c s status₁ took₁ c₁ f₁ × Fed t ts c₁ f₁ status took c' f'

-- for every command, every n from 0 to 85, both modes, every list of one or more chunks, pushed into a new reader whatever its array holds
abbrev pub CodeCutsDontMatter : Type 0
CodeCutsDontMatter =
    (command wanted : ℕ) (strict : Bool) → wanted ≤ 85 → (first : List ℕ) (more : List (List ℕ)) (f : List ℕ) (status took : ℕ) (c' : Counts) (f' : List ℕ)
    → Fed first more (fresh_counts command wanted strict) f status took c' f'
    → Demand (config command wanted strict) (joined (first ∷ more)) record { reader = view c' f'; status = status; took = took }
