-- The five counts and the old one: what a push adds to the five is, all together, what it discards. Assumes nothing.
use mathlib.Core.Path.{◌≡◌, refl, sym, ap, ◌∙◌}
use mathlib.Core.List.{List, [], ◌∷◌}
use Prim.Native.Nat.{ℕ, ◌+◌, ◌*◌, ◌/◌}
use native.Mathlib.Omega.{arith}
use native.Mathlib.Nat.{add-mul-mod_self_right, mod-add-mod}
use Rattle.rules.specs.Rules.{Why, noise, wrong_sum, wrong_command, wrong_number, echo, Fate, discarded, collected, lost}
use Rattle.rules.specs.Ledger.{Line, total, discards, lost_for, discards_for}
use Rattle.rules.specs.Reader.{Discards, Reader, each, count_of, all_of, wrap, did, booked, push}

abbrev pub five_of : Discards → ℕ
five_of d = d.noise + d.sum + d.command + d.number + d.echo

-- the bytes of a turn stand in one of the five
lost-all : (a : Fate) → five_of (each (λ y. lost_for y a)) ≡ lost a
unfolding lost_for
lost-all (discarded noise) = refl
lost-all (discarded wrong_sum) = refl
lost-all (discarded wrong_command) = refl
lost-all (discarded wrong_number) = refl
lost-all (discarded echo) = refl
lost-all collected = refl

-- THE FIVE SUMS over a ledger make the one
pub discards-all : (ls : List Line) → five_of (each (λ y. discards_for y ls)) ≡ discards ls
unfolding total
discards-all [] = refl
discards-all (l ∷ ls) = omega (arith, lost-all l.fate, discards-all ls)

-- so where nothing is discarded, nothing is for any reason
pub none-for : (ls : List Line) → discards ls ≡ 0 → (y : Why) → discards_for y ls ≡ 0
none-for ls e noise = omega (arith, discards-all ls, e)
none-for ls e wrong_sum = omega (arith, discards-all ls, e)
none-for ls e wrong_command = omega (arith, discards-all ls, e)
none-for ls e wrong_number = omega (arith, discards-all ls, e)
none-for ls e echo = omega (arith, discards-all ls, e)

-- five numbers wrapped, and their sum wrapped
wrap-all : (f : Why → ℕ) → all_of (each (λ y. wrap (f y))) ≡ all_of (each f)
wrap-all f =
    let q : ℕ = f noise / 4294967296 + f wrong_sum / 4294967296 + f wrong_command / 4294967296 + f wrong_number / 4294967296 + f echo / 4294967296 in
    let s : five_of (each f) ≡ five_of (each (λ y. wrap (f y))) + q * 4294967296 = omega arith in
    sym (ap wrap s ∙ add-mul-mod_self_right (five_of (each (λ y. wrap (f y)))) q 4294967296)

-- the old count goes on by all that is discarded
pub all_on : (d : Discards) (ls : List Line) → all_of (each (λ y. wrap (count_of d y + discards_for y ls))) ≡ wrap (all_of d + discards ls)
all_on d ls =
    wrap-all (λ y. count_of d y + discards_for y ls)
    ∙ ap wrap (omega (arith, discards-all ls))
    ∙ sym (mod-add-mod (five_of d) 4294967296 (discards ls))

-- THE OLD COUNT: what document 01 says of the one count holds of the sum of the five
pub old-count : (r : Reader) (s : List ℕ) → all_of (push r s).discarded ≡ wrap (all_of r.discarded + discards (did r s).ledger)
unfolding push booked
old-count r s = all_on r.discarded (did r s).ledger
