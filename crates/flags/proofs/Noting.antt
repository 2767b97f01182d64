-- Laws of a list that grows by what is found. Assumes nothing.
use mathlib.Core.Path.{◌≡◌, refl, sym, ap, ◌∙◌}
use mathlib.Core.Bool.{Bool, true, false, cond}
use mathlib.Core.List.{List, [], ◌∷◌, ◌++◌, append_assoc, append-nil}
use Prim.Native.Nat.{ℕ, zero, suc, ◌+◌, ◌≤◌}
use native.Mathlib.Nat.{add-zero, zero-add}
use native.Mathlib.Numerals.{add-one}
use native.Mathlib.Omega.{arith}
use lib.ListN.{length, set, drop, length-append}
use lib.Seq.{sets, sets-eq, length-sets}
use Rattle.wire.specs.Bytes.{byte_at, bit}
use Rattle.wire.specs.Lists.{firsts}
use Rattle.wire.proofs.Sets.{sets_append}
use Rattle.flags.specs.Faults.{Test, found, faults_by}
use Rattle.flags.specs.Noted.{Noted}

-- ---- tests

pub faults_append : (s : List ℕ) (ts us : List Test) → faults_by s (ts ++ us) ≡ faults_by s ts ++ faults_by s us
faults_append s [] us = refl
faults_append s (t ∷ ts) us =
    ap (λ l. found s t ++ l) (faults_append s ts us)
    ∙ sym (append_assoc (found s t) (faults_by s ts) (faults_by s us))

pub firsts_snoc : {A : Type 0} (f : ℕ → A) (n : ℕ) → firsts f (suc n) ≡ firsts f n ++ (f n ∷ [])
firsts_snoc f zero = refl
firsts_snoc f (suc n) = ap (λ l. f 0 ∷ l) (firsts_snoc (λ i. f (suc i)) n)

-- one test more
pub faults-more : (s : List ℕ) (f : ℕ → Test) (n : ℕ)
    → faults_by s (firsts f (n + 1)) ≡ faults_by s (firsts f n) ++ found s (f n)
faults-more s f n =
    ap (λ k. faults_by s (firsts f k)) (add-one n)
    ∙ ap (faults_by s) (firsts_snoc f n)
    ∙ faults_append s (firsts f n) (f n ∷ [])
    ∙ ap (λ l. faults_by s (firsts f n) ++ l) (append-nil (found s (f n)))

-- ---- stores

pub noted_none : (d : List ℕ) (at : ℕ) → Noted d at 0 [] d at
noted_none d at = record { count = sym (add-zero at); few = omega arith; left = refl }

pub noted_then : {d e g : List ℕ} {at m n k r : ℕ} {xs ys : List ℕ} → Noted d at m xs e n → Noted e n k ys g r → Noted d at (m + k) (xs ++ ys) g r
noted_then {d} {e} {g} {at} {m} {n} {k} {r} {xs} {ys} p q = record {
  count = omega (arith, p.count, q.count, length-append xs ys);
  few = omega (arith, p.few, q.few, length-append xs ys);
  left = q.left ∙ ap (λ l. sets l n ys) p.left ∙ ap (λ i. sets (sets d at xs) i ys) p.count ∙ sets_append xs ys d at;
}

-- the tests of one part after those of another
pub noted_tests : (s : List ℕ) (ts us : List Test) {d e g : List ℕ} {at m n k r : ℕ} → Noted d at m (faults_by s ts) e n → Noted e n k (faults_by s us) g r
    → Noted d at (m + k) (faults_by s (ts ++ us)) g r
noted_tests s ts us p q = rw (faults_append s ts us) (noted_then p q)

pub noted_long : {d e : List ℕ} {at m n : ℕ} {xs : List ℕ} → Noted d at m xs e n → length e ≡ length d
noted_long {d} {e} {at} {m} {n} {xs} p = ap length p.left ∙ length-sets d at xs

-- ---- a turn: the bit is set, and the position is stored; or it is not

one_hit : (d : List ℕ) (at p : ℕ) {b : Bool} → b ≡ true → Noted d at 1 (cond b (p ∷ []) []) (set d at p) (at + 1)
one_hit d at p e = rw e (record { count = refl; few = omega arith; left = refl })

one_miss : (d : List ℕ) (at p : ℕ) {b : Bool} → b ≡ false → Noted d at 1 (cond b (p ∷ []) []) d at
one_miss d at p e = rw e (record { count = sym (add-zero at); few = omega arith; left = refl })

-- b is what the code read of the bit, and out' and next' are what a turn leaves
module _ (s : List ℕ) (f : ℕ → Test) {d out out' : List ℕ} {at i next next' : ℕ} {b : Bool} (h : Noted d at i (faults_by s (firsts f i)) out next)
    (r : b ≡ bit (byte_at s (f i).byte) (f i).place) where
  pub noted_hit : b ≡ true → out' ≡ set out next (f i).position → next' ≡ next + 1 → Noted d at (i + 1) (faults_by s (firsts f (i + 1))) out' next'
  noted_hit e o n = rw (o, n, faults-more s f i) (noted_then h (one_hit out next (f i).position (sym r ∙ e)))

  pub noted_miss : b ≡ false → out' ≡ out → next' ≡ next → Noted d at (i + 1) (faults_by s (firsts f (i + 1))) out' next'
  noted_miss e o n = rw (o, n, faults-more s f i) (noted_then h (one_miss out next (f i).position (sym r ∙ e)))

-- from place 0: the values, and past them what was there
pub noted_all : {d e xs : List ℕ} {m n : ℕ} → Noted d 0 m xs e n → m ≤ length d → (n ≡ length xs) × (e ≡ xs ++ drop n d)
noted_all {d} {e} {xs} {m} {n} p h =
    let c : n ≡ length xs = omega (arith, p.count) in
    let l : 0 + length xs ≤ length d = omega (arith, p.few) in
    (c, p.left ∙ sets-eq xs d 0 l ∙ ap (λ k. xs ++ drop k d) (zero-add (length xs) ∙ sym c))
