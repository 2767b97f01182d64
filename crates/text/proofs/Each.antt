-- The texts of a list's values, one more at a time. Assumes nothing.
use mathlib.Core.Path.{◌≡◌, refl, sym, ap, ◌∙◌}
use mathlib.Core.List.{List, [], ◌∷◌, ◌++◌, append_assoc, append-nil}
use Prim.Native.Nat.{ℕ, ◌+◌, ◌<◌}
use native.Mathlib.Numerals.{add-one}
use lib.ListN.{length, get_or, take}
use lib.Seq.{take-suc}
use Rattle.text.specs.declared.Text.{Text}
use Rattle.text.specs.Putting.{Puts}
use Rattle.text.proofs.Pieces.{puts_then, puts_as}
use Rattle.text.specs.Text.{each}

module _ {A : Type 0} (f : A → List ℕ) where
  each_append : (xs ys : List A) → each f (xs ++ ys) ≡ each f xs ++ each f ys
  each_append [] ys = refl
  each_append (x ∷ xs) ys =
      ap (λ t. f x ++ t) (each_append xs ys) ∙ sym (append_assoc (f x) (each f xs) (each f ys))

  each_more : (vs : List A) (i : ℕ) (v : A) → i < length vs → each f (take i vs) ++ f (get_or vs i v) ≡ each f (take (i + 1) vs)
  each_more vs i v h =
      rw (add-one i, take-suc vs i v h) (
      sym (
      each_append (take i vs) (get_or vs i v ∷ [])
      ∙ ap (λ t. each f (take i vs) ++ t) (append-nil (f (get_or vs i v)))
      )
      )

  -- a loop's turn, at its value
  pub puts_each : {t u w : Text} (vs : List A) (i : ℕ) (v : A) → i < length vs → v ≡ get_or vs i v → Puts t (each f (take i vs)) u → Puts u (f v) w → Puts t (each f (take (i + 1) vs)) w
  puts_each vs i v h e p q = puts_as (each_more vs i v h) (puts_then p (puts_as (ap f e) q))
