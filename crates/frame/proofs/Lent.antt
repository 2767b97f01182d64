-- A sound frame that is lent: what is seen of it. Assumes nothing.
use Rattle.std.proofs.Common.{◌≡◌, ℕ, List, Bor, Result, Ok, Err, sym, ◌∙◌, ap, IfOk, IfErr}
use Rattle.frame.specs.declared.refusal.Refusal.{Refusal}
use Rattle.frame.specs.Checks.{frame_check}
use Rattle.frame.specs.Reply.{IsSoundFrame}

-- the bytes that are lent, or the refusal
abbrev pub bytes_of : Result (Bor (List ℕ)) Refusal → Result (List ℕ) Refusal
bytes_of (Ok frame) = Ok frame.now
bytes_of (Err r) = Err r

module _ (command : ℕ) (s : List ℕ) where
  abbrev pub Lends : Result (Bor (List ℕ)) Refusal → Type 0
  Lends r = IfOk r (λ frame. IsSoundFrame command s frame.now) × IfErr r (λ refusal. frame_check command s ≡ Err refusal)

  pub one_frame : (x y : Result (Bor (List ℕ)) Refusal) → Lends x → Lends y → bytes_of x ≡ bytes_of y
  one_frame (Ok f) (Ok g) p q = ap Ok (p.0.bytes ∙ sym q.0.bytes)
  one_frame (Ok f) (Err r) p q = let e = p.0.checked in let d = q.1 in cc
  one_frame (Err r) (Ok g) p q = let e = q.0.checked in let d = p.1 in cc
  one_frame (Err r) (Err t) p q = let e = p.1 in let d = q.1 in cc
