-- The text is a function of the input's bytes, however they were cut. Assumes nothing.
use mathlib.Core.Path.{◌≡◌, refl, sym, ap, ◌∙◌}
use mathlib.Core.Bool.{Bool, true, false}
use mathlib.Core.List.{List, [], ◌∷◌, ◌++◌, append-nil}
use Prim.Native.Nat.{ℕ}
use Rattle.rules.specs.Reader.{Reader, bad, answer, joined, fresh}
use Rattle.rules.proofs.Recut.{recut}
use Rattle.rules.proofs.Demand.{bad-push}
use Rattle.reply.specs.declared.Input.{Input}
use Rattle.reply.specs.Output.{known, asked, reported, output_of}
use Rattle.reply.specs.Input.{State, nothing, first, stream, state_of, begun, streamed, from_second, from_first, pushed, printed, Came, HoweverCut, OfSomeInput}

-- ---- two chunks are one

answer_twice : (r : Reader) (a b : List ℕ) → (answer (answer r a).reader b).reader ≡ (answer r (a ++ b)).reader
unfolding answer
answer_twice r a b = go (bad r) refl
  where
    go : (t : Bool) → bad r ≡ t → (answer (answer r a).reader b).reader ≡ (answer r (a ++ b)).reader
    go true e = rw (e, e)
    go false e = rw (e, bad-push r a e) (recut r a b)

streamed_twice : (c n : ℕ) (r : Reader) (a b : List ℕ) → pushed (streamed c n r a) b ≡ streamed c n r (a ++ b)
unfolding pushed streamed
streamed_twice c n r a b = go (known c) refl
  where
    go : (t : Bool) → known c ≡ t → pushed (streamed c n r a) b ≡ streamed c n r (a ++ b)
    go true e = rw e (ap (stream c n) (answer_twice r a b))
    go false e = rw e

second_then : (c : ℕ) (a b : List ℕ) → pushed (from_second c a) b ≡ from_second c (a ++ b)
unfolding pushed from_second
second_then c [] b = refl
second_then c (n ∷ a) b = streamed_twice c n (fresh (asked c n)) a b

first_then : (a b : List ℕ) → pushed (from_first a) b ≡ from_first (a ++ b)
unfolding pushed from_first
first_then [] b = refl
first_then (c ∷ a) b = second_then c a b

pub pushed_twice : (st : State) (a b : List ℕ) → pushed (pushed st a) b ≡ pushed st (a ++ b)
unfolding pushed
pushed_twice nothing a b = first_then a b
pushed_twice (first c) a b = second_then c a b
pushed_twice (stream c n r) a b = streamed_twice c n r a b

-- ---- any chunks are one

came_on : (s : List ℕ) (ss : List (List ℕ)) (i : Input) (f : List ℕ) (i' : Input) (f' : List ℕ) → Came (s ∷ ss) i f i' f'
    → state_of i' f' ≡ pushed (state_of i f) (joined (s ∷ ss))
unfolding joined
came_on s [] i f i' f' (i₁, f₁, e, (p, q)) = (λ k. state_of (p k) (q k)) ∙ e ∙ ap (pushed (state_of i f)) (sym (append-nil s))
came_on s (t ∷ ts) i f i' f' (i₁, f₁, e, more) =
    came_on t ts i₁ f₁ i' f' more ∙ ap (λ (x : State). pushed x (joined (t ∷ ts))) e ∙ pushed_twice (state_of i f) s (joined (t ∷ ts))

-- ---- what is printed then

printed-stream : (c n : ℕ) (s : List ℕ) → printed (streamed c n (fresh (asked c n)) s) ≡ reported c n (answer (fresh (asked c n)) s).reader
unfolding printed streamed reported
printed-stream c n s = go (known c) refl
  where
    go : (t : Bool) → known c ≡ t → printed (streamed c n (fresh (asked c n)) s) ≡ reported c n (answer (fresh (asked c n)) s).reader
    go true e = rw e
    go false e = rw e

printed-begun : (f s : List ℕ) → printed (pushed (state_of begun f) s) ≡ output_of s
unfolding printed state_of pushed from_first from_second
printed-begun f [] = refl
printed-begun f (c ∷ []) = refl
printed-begun f (c ∷ n ∷ s) = printed-stream c n s

none_come : (f : List ℕ) (i' : Input) (f' : List ℕ) → (i' ≡ begun) × (f' ≡ f) → printed (state_of i' f') ≡ output_of (joined [])
unfolding printed state_of joined
none_come f i' f' (p, q) = λ k. printed (state_of (p k) (q k))

pub however_cut : HoweverCut
however_cut [] f i' f' c = none_come f i' f' c
however_cut (s ∷ ss) f i' f' c = ap printed (came_on s ss begun f i' f' c) ∙ printed-begun f (joined (s ∷ ss))

-- bytes have come, and in any number
abbrev pub SoFar : List ℕ → Input → List ℕ → Type 0
SoFar f₀ i f = (s : List ℕ) × (state_of i f ≡ pushed (state_of begun f₀) s)

pub so_begun : (f : List ℕ) → SoFar f begun f
unfolding state_of pushed from_first
so_begun f = ([], refl)

pub so_next : (f₀ : List ℕ) (i : Input) (f s : List ℕ) (i' : Input) (f' : List ℕ) → SoFar f₀ i f → state_of i' f' ≡ pushed (state_of i f) s → SoFar f₀ i' f'
so_next f₀ i f s i' f' (t, e) p = (t ++ s, p ∙ ap (λ (x : State). pushed x s) e ∙ pushed_twice (state_of begun f₀) t s)

pub so_printed : (f₀ : List ℕ) (i : Input) (f : List ℕ) → SoFar f₀ i f → OfSomeInput i f
so_printed f₀ i f (s, e) = (s, ap printed e ∙ printed-begun f₀ s)
