-- Lists that are given by their values: how long they are, what stands where, and when one is a given list. Assumes nothing.
use mathlib.Core.Path.{◌≡◌, refl, ap}
use mathlib.Core.List.{List, [], ◌∷◌}
use Prim.Native.Nat.{ℕ, zero, suc, ◌<◌}
use native.Mathlib.Omega.{arith}
use lib.ListN.{length, get_or}
use Rattle.wire.specs.Lists.{firsts}

module _ {A : Type 0} where
  pub length-firsts : (f : ℕ → A) (n : ℕ) → length (firsts f n) ≡ n
  length-firsts f zero = refl
  length-firsts f (suc n) = ap suc (length-firsts (λ i. f (suc i)) n)

  pub get_or-firsts : (f : ℕ → A) (n j : ℕ) (d : A) → j < n → get_or (firsts f n) j d ≡ f j
  get_or-firsts f zero j d h = absurd (omega arith)
  get_or-firsts f (suc n) zero d h = refl
  get_or-firsts f (suc n) (suc j) d h = get_or-firsts (λ i. f (suc i)) n j d (omega arith)

  pub firsts-are : (f : ℕ → A) (l : List A) (d : A) → ((i : ℕ) → i < length l → f i ≡ get_or l i d) → firsts f (length l) ≡ l
  firsts-are f [] d h = refl
  firsts-are f (x ∷ l) d h = λ i. h 0 (omega arith) i ∷ firsts-are (λ k. f (suc k)) l d (λ k b. h (suc k) (omega arith)) i
