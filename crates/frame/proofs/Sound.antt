-- A frame is one to the frame check, and its data stand behind its fourth byte. Assumes nothing.
use Rattle.std.proofs.Common.{◌≡◌, ℕ, ◌+◌, ◌-◌, ◌<◌, List, [], ◌∷◌, ◌++◌, length, get_or, take, sym, refl, ap, ◌∙◌, arith, length-append, take_at, get_or-append-add, le-ltb, eq-eqb}
use lib.ListN.{get_or-append}
use lib.Seq.{get_or_at}
use Rattle.wire.specs.Bytes.{byte_at}
use Rattle.frame.specs.Refusals.{sound}
use Rattle.frame.specs.Frame.{sum, summed, frame}
use Rattle.frame.specs.Checks.{sum_of, len_check, header_check, checksum_check, frame_check}

-- what stands before the sum
abbrev pub body : ℕ → ℕ → List ℕ → List ℕ
body address command d = 0xA5 ∷ address ∷ command ∷ 8 ∷ d

module _ (address command : ℕ) (d : List ℕ) (h : length d ≡ 8) where
  long : length (body address command d) ≡ 12
  long = omega arith

  pub frame-long : length (frame address command d) ≡ 13
  unfolding frame summed
  frame-long = omega (arith, length-append d (sum (body address command d) ∷ []))

  pub frame-sum : byte_at (frame address command d) 12 ≡ sum (body address command d)
  unfolding frame summed
  frame-sum = get_or_at (body address command d) (sum (body address command d)) [] 0 12 long

  pub frame_body : take 12 (frame address command d) ≡ body address command d
  unfolding frame summed
  frame_body = take_at (body address command d) (sum (body address command d) ∷ []) 12 long

  pub frame_head : (byte_at (frame address command d) 0 ≡ 0xA5) × (byte_at (frame address command d) 2 ≡ command)
  unfolding frame summed
  frame_head = (refl, refl)

  pub frame-address : byte_at (frame address command d) 1 ≡ address
  unfolding frame summed
  frame-address = refl

  -- byte j of the data
  pub frame_data : (j : ℕ) → j < 8 → byte_at (frame address command d) (4 + j) ≡ get_or d j 0
  unfolding frame summed
  frame_data j l =
      get_or-append-add (0xA5 ∷ address ∷ command ∷ 8 ∷ []) (d ++ (sum (body address command d) ∷ [])) j 0
      ∙ get_or-append d (sum (body address command d) ∷ []) 0 j (omega arith)

  pub frame_sound : frame_check command (frame address command d) ≡ sound
  unfolding frame_check len_check header_check checksum_check sum_of
  frame_sound =
      let s : List ℕ = frame address command d in
      let p : byte_at s (length s - 1) ≡ sum (body address command d) = ap (λ (n : ℕ). byte_at s (n - 1)) frame-long ∙ frame-sum in
      let t : sum (take (length s - 1) s) ≡ sum (body address command d) = ap (λ (n : ℕ). sum (take (n - 1) s)) frame-long ∙ ap sum frame_body in
      let l : length s ≡ 13 = frame-long in
      rw (le-ltb (length s) 13 (omega arith), le-ltb (length s) 3 (omega arith), le-ltb (length s) 1 (omega arith), eq-eqb _ _ frame_head.0, eq-eqb _ _ frame_head.1, eq-eqb _ _ (p ∙ sym t))
