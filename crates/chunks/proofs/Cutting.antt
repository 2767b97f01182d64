-- The chunks of a stream, one after the other: what was answered so far, and that the loop ends. Assumes nothing.
use mathlib.Core.Path.{◌≡◌, refl, sym, ◌∙◌}
use mathlib.Core.Bool.{Bool, true, false, true≢false}
use mathlib.Core.List.{List}
use mathlib.Core.Logic.{◌⊎◌, inl, inr}
use Prim.Native.Nat.{ℕ, ◌+◌, ◌-◌, ◌≤◌, ◌<◌}
use native.Mathlib.Omega.{arith}
use native.Mathlib.Nat.{zero-add}
use borrow.Author.Tests.{ltb-true, ltb-false}
use lib.Dec.{ltb}
use lib.ListN.{length, take, drop}
use lib.Seq.{take_all}
use Rattle.reader.specs.View.{Answered}
use Rattle.reader.specs.declared.Counts.{Counts}
use Rattle.reader.proofs.Promise.{answered-next}

-- nothing is pushed yet, or the first `at` bytes are answered as one push of them
abbrev pub SoFar : List ℕ → Counts → List ℕ → ℕ → ℕ → ℕ → Counts → List ℕ → Bool → Type 0
SoFar f c s at st tk c' f' more =
    ((at ≡ 0) × (tk ≡ 0) × (c ≡ c') × (f ≡ f') × (more ≡ true)) ⊎ (Answered f c (take at s) st tk c' f' × (more ≡ ltb at (length s)))

pub so_next : (f : List ℕ) (c : Counts) (s : List ℕ) (at n st tk : ℕ) (c₁ : Counts) (f₁ : List ℕ) (more : Bool) (st₂ tk₂ : ℕ) (c₂ : Counts) (f₂ : List ℕ)
    → SoFar f c s at st tk c₁ f₁ more → Answered f₁ c₁ (take n (drop at s)) st₂ tk₂ c₂ f₂ → Answered f c (take (at + n) s) st₂ (tk + tk₂) c₂ f₂
so_next f c s at n st tk c₁ f₁ more st₂ tk₂ c₂ f₂ (inl (z, t, ce, fe, m)) a = rw (z, t, ce, fe, zero-add n, zero-add tk₂) (rw z at a)
so_next f c s at n st tk c₁ f₁ more st₂ tk₂ c₂ f₂ (inr (h, m)) a = answered-next f c s at n st tk c₁ f₁ st₂ tk₂ c₂ f₂ h a

-- the loop is left: all is answered
pub so_all : (f : List ℕ) (c : Counts) (s : List ℕ) (at st tk : ℕ) (c₁ : Counts) (f₁ : List ℕ) (more : Bool)
    → SoFar f c s at st tk c₁ f₁ more → more ≡ false → Answered f c s st tk c₁ f₁
so_all f c s at st tk c₁ f₁ more (inl (z, t, ce, fe, m)) e = let q : true ≡ false = sym m ∙ e in absurd (true≢false q)
so_all f c s at st tk c₁ f₁ more (inr (h, m)) e = rw (take_all at s (ltb-false at (length s) (sym m ∙ e))) at h

-- the turns that may still come
abbrev pub turns_left : Bool → ℕ → ℕ
turns_left true left = left + 1
turns_left false left = left

pub fewer : (s : List ℕ) (at n : ℕ) → at ≤ length s → n ≤ length s - at → (0 < length s - at → 0 < n)
    → turns_left (ltb (at + n) (length s)) (length s - (at + n)) < length s - at + 1
fewer s at n a b k = go (ltb (at + n) (length s)) refl
  where
    go : (t : Bool) → ltb (at + n) (length s) ≡ t → turns_left t (length s - (at + n)) < length s - at + 1
    go true e = let l : at + n < length s = ltb-true (at + n) (length s) e in let p : 0 < n = k (omega arith) in omega arith
    go false e = omega arith
