-- A 98 reply is read back as the positions whose flag is set, in the order of the decoder's tests. Assumes nothing.
use mathlib.Core.Path.{◌≡◌, refl, sym, ap, ◌∙◌}
use mathlib.Core.Bool.{Bool, false, cond}
use mathlib.Core.List.{List, [], ◌∷◌, ◌++◌, map, map-append, append_assoc}
use Prim.Native.Nat.{ℕ, zero, suc, ◌+◌, ◌≤◌, ◌<◌}
use native.Mathlib.Omega.{arith}
use borrow.Author.Tests.{le-ltb}
use lib.ListN.{get_or}
use Rattle.wire.specs.Bytes.{byte_at, bit, byte_of}
use Rattle.wire.specs.Lists.{firsts}
use Rattle.wire.proofs.Packing.{byte_back}
use Rattle.frame.specs.Refusals.{sound}
use Rattle.frame.proofs.Sound.{frame-long, frame_data, frame_sound}
use Rattle.list.specs.Listed.{gate}
use Rattle.flags.specs.Faults.{Test, run, fault_tests, faults_by, faults, faults_check}
use Rattle.flags.proofs.Noting.{faults_append}
use Rattle.writing_flags.specs.Replies.{faults_reply}
use Rattle.writing_flags.specs.Meant.{set_among, set_faults}

set_append : (flags : List Bool) (ps qs : List ℕ) → set_among flags (ps ++ qs) ≡ set_among flags ps ++ set_among flags qs
set_append flags [] qs = refl
set_append flags (p ∷ ps) qs =
    ap (λ l. cond (get_or flags p false) (p ∷ []) [] ++ l) (set_append flags ps qs)
    ∙ sym (append_assoc (cond (get_or flags p false) (p ∷ []) []) (set_among flags ps) (set_among flags qs))

abbrev positions : List Test → List ℕ
positions ts = map (λ (t : Test). t.position) ts

-- what these tests find in the reply is what is set among their positions
record Back (s : List ℕ) (flags : List Bool) (ts : List Test) : Type 0 where
  same : faults_by s ts ≡ set_among flags (positions ts)

module _ {s : List ℕ} {flags : List Bool} where
  then_back : {ts us : List Test} → Back s flags ts → Back s flags us → Back s flags (ts ++ us)
  then_back {ts} {us} p q = record {
    same =
        faults_append s ts us
        ∙ ap (λ l. l ++ faults_by s us) p.same
        ∙ ap (λ l. set_among flags (positions ts) ++ l) q.same
        ∙ sym (ap (set_among flags) (map-append (λ (t : Test). t.position) ts us) ∙ set_append flags (positions ts) (positions us));
  }

  each_back : (f : ℕ → Test) (n : ℕ) → ((i : ℕ) → i < n → bit (byte_at s (f i).byte) (f i).place ≡ get_or flags (f i).position false) → Back s flags (firsts f n)
  each_back f zero h = record { same = refl }
  each_back f (suc n) h = record {
    same =
        ap (λ (b : Bool). cond b ((f 0).position ∷ []) [] ++ faults_by s (firsts (λ i. f (suc i)) n)) (h 0 (omega arith))
        ∙ ap (λ l. cond (get_or flags (f 0).position false) ((f 0).position ∷ []) [] ++ l) (each_back (λ i. f (suc i)) n (λ i l. h (suc i) (omega arith))).same;
  }

  -- byte b has the m flags from `from` on, and the run tests n of them, from bit k on
  run_back : (b k n from m : ℕ) → byte_at s b ≡ byte_of flags from m → k + n ≤ m → Back s flags (run b k (from + k) n)
  run_back b k n from m e h = each_back _ n (λ i l.
      let a : from + (k + i) ≡ from + k + i = omega arith in
      ap (λ (x : ℕ). bit x (k + i)) e ∙ byte_back flags from m (k + i) (omega arith) ∙ ap (λ (x : ℕ). get_or flags x false) a)

module _ (address : ℕ) (flags : List Bool) where
  abbrev bytes : List ℕ
  bytes = byte_of flags 0 8 ∷ byte_of flags 8 8 ∷ byte_of flags 16 8 ∷ byte_of flags 24 4 ∷ byte_of flags 28 8 ∷ byte_of flags 36 8 ∷ byte_of flags 44 4 ∷ 0 ∷ []

  abbrev reply : List ℕ
  reply = faults_reply address flags

  -- of data byte j
  data_back : (j k n from m : ℕ) → j < 8 → get_or bytes j 0 ≡ byte_of flags from m → k + n ≤ m → Back reply flags (run (4 + j) k (from + k) n)
  data_back j k n from m l e h = run_back (4 + j) k n from m (frame_data address 0x98 bytes refl j l ∙ e) h

  tests_back : Back reply flags fault_tests
  tests_back =
      then_back (data_back 0 0 8 0 8 (omega arith) refl (omega arith))
      (then_back (data_back 1 0 8 8 8 (omega arith) refl (omega arith))
      (then_back (data_back 2 1 1 16 8 (omega arith) refl (omega arith))
      (then_back (data_back 2 0 1 16 8 (omega arith) refl (omega arith))
      (then_back (data_back 2 2 6 16 8 (omega arith) refl (omega arith))
      (then_back (data_back 3 0 4 24 4 (omega arith) refl (omega arith))
      (then_back (data_back 4 0 8 28 8 (omega arith) refl (omega arith))
      (then_back (data_back 5 0 8 36 8 (omega arith) refl (omega arith))
      (data_back 6 0 4 44 4 (omega arith) refl (omega arith)))))))))

  -- the decoder refuses it for no room that is enough
  pub faults_sound : (room : ℕ) → 48 ≤ room → faults_check reply room ≡ sound
  unfolding gate
  faults_sound room r = rw (frame-long address 0x98 bytes refl, le-ltb room 48 r) (frame_sound address 0x98 bytes refl)

  -- and lists what was meant
  pub faults_back : faults reply ≡ set_faults flags
  unfolding faults set_faults
  faults_back = tests_back.same
