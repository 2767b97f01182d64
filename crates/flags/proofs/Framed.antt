-- A reply's values are those of its first 13 bytes. Assumes nothing.
use mathlib.Core.Path.{◌≡◌, refl, ap, ◌∙◌}
use mathlib.Core.Bool.{Bool, true, cond}
use mathlib.Core.List.{List, [], ◌∷◌, ◌++◌}
use Prim.Native.Nat.{ℕ, zero, suc, ◌+◌, ◌/◌, ◌%◌, ◌<◌, ◌≤◌}
use native.Mathlib.Omega.{arith}
use borrow.Author.Tests.{ltb-true, le-ltb}
use lib.Dec.{ltb}
use Rattle.std.specs.Prelude.{length, take, Result, Ok, Err, IfOk, IfErr}
use Rattle.std.proofs.Common.{Bor}
use Rattle.frame.specs.declared.refusal.Refusal.{Refusal}
use Rattle.frame.specs.Checks.{frame_check}
use Rattle.frame.specs.Reply.{IsSoundFrame}
use Rattle.list.specs.Listed.{gate}
use Rattle.flags.specs.Noted.{IsRoomy}
use Rattle.std.specs.List.{AllPass}
use Rattle.std.proofs.lemmas.List.{get_or-take}
use Rattle.std.proofs.lemmas.List.Sums.{AllPass-from_list_all}
use Rattle.wire.specs.Bytes.{bit}
use Rattle.wire.specs.Lists.{firsts}
use Rattle.flags.specs.Balance.{flag_at}
use Rattle.flags.specs.Faults.{Test, fault_tests, found, faults_by, faults}

firsts_same : {A : Type 0} (f g : ℕ → A) (n : ℕ) → ((i : ℕ) → i < n → f i ≡ g i) → firsts f n ≡ firsts g n
firsts_same f g zero h = refl
firsts_same f g (suc n) h = λ i. h 0 (omega arith) i ∷ firsts_same (λ k. f (suc k)) (λ k. g (suc k)) n (λ k b. h (suc k) (omega arith)) i

module _ (s : List ℕ) where
  pub flags_framed : (n : ℕ) → n ≤ 48 → firsts (flag_at (take 13 s)) n ≡ firsts (flag_at s) n
  flags_framed n h = firsts_same _ _ n (λ i b. ap (λ v. bit v (i % 8)) (get_or-take 13 s (4 + i / 8) 0 (omega arith)))

  abbrev in_frame : Test → Bool
  in_frame t = ltb t.byte 13

  found_framed : (t : Test) → in_frame t ≡ true → found (take 13 s) t ≡ found s t
  found_framed t h = ap (λ b. cond (bit b t.place) (t.position ∷ []) []) (get_or-take 13 s t.byte 0 (ltb-true _ _ h))

  tests_framed : (ts : List Test) → AllPass in_frame ts → faults_by (take 13 s) ts ≡ faults_by s ts
  tests_framed [] a = refl
  tests_framed (t ∷ ts) a =
      let rest = tests_framed ts (λ k d h. a (suc k) d (omega (arith, h))) in
      λ i. found_framed t (a 0 t (omega arith)) i ++ rest i

  pub faults_framed : faults (take 13 s) ≡ faults s
  unfolding faults
  faults_framed = tests_framed fault_tests (AllPass-from_list_all in_frame fault_tests refl)

-- the check of a frame with room for its values, from what the code compares
module _ (command places room : ℕ) (s : List ℕ) (h : 13 ≤ length s) (r : places ≤ room) where
  open_gate : gate 13 places room s (frame_check command s) ≡ frame_check command s
  unfolding gate
  open_gate = simp (le-ltb _ _ h, le-ltb _ _ r)

  pub roomy : (x : Result (Bor (List ℕ)) Refusal) → IfOk x (λ frame. IsSoundFrame command s frame.now) → IfOk x (λ frame. IsRoomy command places room s frame.now)
  roomy (Ok frame) p = record { checked = open_gate ∙ p.checked; bytes = p.bytes; room_for = r }
  roomy (Err refusal) p = tt

  pub refused_on : (x : Result (Bor (List ℕ)) Refusal) → IfErr x (λ refusal. frame_check command s ≡ Err refusal) → IfErr x (λ refusal. gate 13 places room s (frame_check command s) ≡ Err refusal)
  refused_on (Ok frame) p = tt
  refused_on (Err refusal) p = open_gate ∙ p
