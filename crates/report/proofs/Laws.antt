-- Two texts, of which the second is one of two. Assumes nothing.
use mathlib.Core.Path.{◌≡◌}
use mathlib.Core.Bool.{cond}
use mathlib.Core.List.{List, ◌++◌}
use Prim.Native.Nat.{ℕ}
use lib.Dec.{eqb}
use borrow.Author.Tests.{eq-eqb, ne_eqb}
use Rattle.text.specs.declared.Text.{Text}
use Rattle.text.specs.Putting.{Puts}
use Rattle.text.proofs.Pieces.{puts_then}

module _ {t u v w : Text} {xs : List ℕ} {n : ℕ} (ys zs : List ℕ) where
  pub puts_first : n ≡ 2 → v ≡ w → Puts t xs u → Puts u ys w → Puts t (xs ++ cond (eqb n 2) ys zs) v
  puts_first e s p q = simp (eq-eqb n 2 e, s) (puts_then p q)

  pub puts_second : (n ≡ 2 → ⊥) → v ≡ w → Puts t xs u → Puts u zs w → Puts t (xs ++ cond (eqb n 2) ys zs) v
  puts_second e s p q = simp (ne_eqb n 2 e, s) (puts_then p q)
