-- Document 01, `readreply`: lines that several replies share. Definitions only.
use Rattle.std.specs.Prelude.{ℕ, Bool, cond, List, Result, Ok, Err}
use Rattle.frame.specs.declared.refusal.Refusal.{Refusal}
use Rattle.frame.specs.Refusals.{Check, refusal_number}
use Rattle.text.specs.Words.{word}
use Rattle.text.specs.Text.{line}

-- "`refused N`"
abbrev pub refused_line : ℕ → List ℕ
refused_line n = line (word "refused") n

-- "the decoder's number"
abbrev pub refusal_line : Refusal → List ℕ
refusal_line r = refused_line (refusal_number r)

-- "flags are 0 or 1"
abbrev pub flag_number : Bool → ℕ
flag_number b = cond b 1 0

abbrev pub flag_line : List ℕ → Bool → List ℕ
flag_line name b = line name (flag_number b)

-- the lines of what a decoder gives, or its refusal
abbrev pub told : {A : Type 0} → (A → List ℕ) → Result A Refusal → List ℕ
told lines (Ok given) = lines given
told lines (Err r) = refusal_line r

-- the values' lines where the decoder's check found nothing, else its refusal
abbrev pub list_text : Check → List ℕ → List ℕ
list_text check text = told (λ given. text) check
