-- Laws of text that is put, piece after piece. Assumes nothing.
use mathlib.Core.Path.{◌≡◌, refl, sym, ap, ◌∙◌, subst}
use mathlib.Core.List.{List, [], ◌∷◌, ◌++◌}
use Prim.Native.Nat.{ℕ, ◌+◌, ◌/◌, ◌%◌, ◌<◌, ◌≤◌, ◌^◌}
use native.Mathlib.Omega.{arith}
use native.Mathlib.Numerals.{add-one}
use lib.ListN.{length, get_or, take, set}
use lib.Seq.{take-suc}
use Rattle.text.specs.declared.Text.{Text}
use Rattle.text.specs.Text.{place, digit, decimal}
use Rattle.text.specs.Putting.{Puts}
use Rattle.text.proofs.Putting.{put_then, put-none, byte_in, byte_past, decimal-small, decimal-more}

-- nothing
pub puts-none : (t : Text) → length t.out.now < 2 ^ 64 → t.at < 2 ^ 64 → Puts t [] t
puts-none t h l = record { same = refl; short = h; put = put-none t.out.now t.at l }

-- a piece after a piece
pub puts_then : {t u v : Text} {xs ys : List ℕ} → Puts t xs u → Puts u ys v → Puts t (xs ++ ys) v
puts_then p q = record { same = q.same ∙ p.same; short = p.short; put = put_then p.short p.put q.put }

infixl 40 ◌⨾◌
abbrev pub ◌⨾◌ : {t u v : Text} {xs ys : List ℕ} → Puts t xs u → Puts u ys v → Puts t (xs ++ ys) v
◌⨾◌ = puts_then

-- the same text under another name
pub puts_as : {t u : Text} {xs ys : List ℕ} → xs ≡ ys → Puts t xs u → Puts t ys u
puts_as {t} {u} e p = subst (λ (x : List ℕ). Puts t x u) e p

-- one element more of a word
pub puts-more : {t u v : Text} {i : ℕ} (w : List ℕ) → i < length w → Puts t (take i w) u → Puts u (get_or w i 0 ∷ []) v → Puts t (take (i + 1) w) v
puts-more {i = i} w l p q = rw (add-one i, take-suc w i 0 l) (puts_then p q)

-- what stands at u stands at v
pub puts_from : {t u v : Text} {xs : List ℕ} → t ≡ u → Puts t xs v → Puts u xs v
puts_from {v = v} {xs = xs} e p = subst (λ (x : Text). Puts x xs v) e p

-- a number's last digit, which is its only one or stands behind its tens
pub puts_digit : {t u v : Text} (n : ℕ) → n < 10 → u ≡ t → Puts u (digit (n % 10) ∷ []) v → Puts t (decimal n) v
puts_digit n h e p =
    let m : n % 10 ≡ n = omega arith in
    puts_as (ap (λ d. digit d ∷ []) m ∙ sym (decimal-small n h)) (puts_from e p)

pub puts_tens : {t u v w : Text} (n : ℕ) → 10 ≤ n → n < 2 ^ 64 → u ≡ w → Puts t (decimal (n / 10)) w → Puts u (digit (n % 10) ∷ []) v → Puts t (decimal n) v
puts_tens n h l e p q = puts_as (sym (decimal-more n h l)) (puts_then p (puts_from e q))

-- a byte, where the buffer has the place, and where it does not
pub puts_in : {t m : Text} {r b : ℕ} → length t.out.now < 2 ^ 64 → t.at < length t.out.now → m.out.ghost_name ≡ t.out.ghost_name → m.out.now ≡ set t.out.now t.at b → m.at ≡ t.at
    → r ≡ place (m.at + 1) → Puts t (b ∷ []) (record { out = m.out; at = r })
puts_in {t} {m} {b = b} l h g n a e =
    record { same = g; short = l; put = record { ends = e ∙ ap (λ k. place (k + 1)) a; left = n ∙ (byte_in t.out.now t.at b h).left } }

pub puts_past : {t m : Text} {r b : ℕ} → length t.out.now < 2 ^ 64 → length t.out.now ≤ t.at → m ≡ t → r ≡ place (m.at + 1) → Puts t (b ∷ []) (record { out = m.out; at = r })
puts_past {t} {m} {b = b} l h s e =
    record {
      same = ap (λ (x : Text). x.out.ghost_name) s;
      short = l;
      put = record {
        ends = e ∙ ap (λ (x : Text). place (x.at + 1)) s;
        left = ap (λ (x : Text). x.out.now) s ∙ (byte_past t.out.now t.at b h).left;
      };
    }
