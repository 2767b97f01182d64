-- Thirteen bytes that the code writes one by one are a frame. Assumes nothing.
use Rattle.std.proofs.Common.{◌≡◌, ℕ, List, [], ◌∷◌, length, get_or, sym, ap, ◌∙◌, le_of_eq, arith, drop_of_length-le, drop-cons}
use Rattle.frame.specs.Frame.{summed, frame}
use Rattle.frame.specs.Checks.{sum_of}

-- eight bytes, by their places
eight : (d : List ℕ) → length d ≡ 8 → d ≡ get_or d 0 0 ∷ get_or d 1 0 ∷ get_or d 2 0 ∷ get_or d 3 0 ∷ get_or d 4 0 ∷ get_or d 5 0 ∷ get_or d 6 0 ∷ get_or d 7 0 ∷ []
eight d h =
    let e0 = drop-cons d 0 0 (omega arith) in
    let e1 = drop-cons d 1 0 (omega arith) in
    let e2 = drop-cons d 2 0 (omega arith) in
    let e3 = drop-cons d 3 0 (omega arith) in
    let e4 = drop-cons d 4 0 (omega arith) in
    let e5 = drop-cons d 5 0 (omega arith) in
    let e6 = drop-cons d 6 0 (omega arith) in
    let e7 = drop-cons d 7 0 (omega arith) in
    let e8 = drop_of_length-le d (le_of_eq h) in
    cc

-- the code's buffer, with its last byte still to be set
abbrev pub buffer : ℕ → ℕ → List ℕ → ℕ → List ℕ
buffer address command d last =
    0xA5 ∷ address ∷ command ∷ 8 ∷ get_or d 0 0 ∷ get_or d 1 0 ∷ get_or d 2 0 ∷ get_or d 3 0 ∷ get_or d 4 0 ∷ get_or d 5 0 ∷ get_or d 6 0 ∷ get_or d 7 0 ∷ last ∷ []

pub whole : (address command : ℕ) (d : List ℕ) → length d ≡ 8 → {c : ℕ} → c ≡ sum_of (buffer address command d 0) → buffer address command d c ≡ frame address command d
unfolding sum_of summed frame
whole address command d h e =
    ap (buffer address command d) e ∙ ap (λ (bytes : List ℕ). summed (0xA5 ∷ address ∷ command ∷ 8 ∷ bytes)) (sym (eight d h))
