-- A written reply with anything behind it, however it is cut, leaves a fresh reader of its size complete with exactly its frames. Assumes nothing.
use mathlib.Core.Path.{◌≡◌, refl, sym, ap, ◌∙◌}
use mathlib.Core.Bool.{Bool}
use mathlib.Core.List.{List, [], ◌∷◌, ◌++◌, append-nil}
use Prim.Native.Nat.{ℕ, zero, suc, ◌+◌, ◌*◌, ◌≤◌, ◌<◌}
use native.Mathlib.Numerals.{add-one}
use native.Mathlib.Omega.{arith}
use lib.ListN.{length}
use Rattle.wire.specs.Bytes.{byte_at}
use Rattle.wire.specs.Lists.{firsts}
use Rattle.wire.proofs.Firsts.{length-firsts, get_or-firsts}
use Rattle.frame.specs.Frame.{sum, frame}
use Rattle.frame.proofs.Sound.{frame-long, frame_head, frame-address, frame-sum, frame_body, frame_data}
use Rattle.rules.specs.Rules.{Config}
use Rattle.rules.specs.Reader.{Reader, wrap, fresh, frames_of, completeness, status, joined}
use Rattle.rules.specs.Demand.{Valid, Numbered}
use Rattle.rules.proofs.Gather.{Ready, ready_fresh, gathered-complete, gathers_cut}
use Rattle.writing_lists.specs.Numbered.{seven_of, numbered_frame, numbered_reply}
use Rattle.writing_lists.proofs.Frames.{reply-long}
use Rattle.readback.specs.Met.{reader_of, Heard, Meets, ReaderMeets}

-- a frame of eight data bytes is valid, where its number is not looked at or is right, and it is no echo where that is looked at
frame_valid : (c : Config) (address i : ℕ) (bytes : List ℕ) → length bytes ≡ 8 → Heard c.strict address
    → (1 < c.wanted → byte_at (frame address c.command bytes) 4 ≡ i) → Valid c i (frame address c.command bytes)
frame_valid c address i bytes h a n =
    record {
      whole = frame-long address c.command bytes h;
      start = (frame_head address c.command bytes h).0;
      total = frame-sum address c.command bytes h ∙ sym (ap sum (frame_body address c.command bytes h));
      command = (frame_head address c.command bytes h).1;
      sender = λ s e. a s (sym (frame-address address c.command bytes h) ∙ e);
      number = n;
    }

-- "n = ceil(size/13)" of a reply of n frames
sized : (n size : ℕ) → size ≡ 13 * n → frames_of size ≡ n
sized n size e = omega arith

-- THE READER MEETS IT: frames that are valid for a reader of their size
meets : (strict : Bool) (command : ℕ) (frames : List (List ℕ)) (reply : List ℕ) → joined frames ≡ reply → length frames ≤ 85
    → frames_of (length reply) ≡ length frames → Numbered (reader_of strict command reply) frames → Meets strict command frames reply
unfolding status
meets strict command frames reply j m n v behind first more e =
    let c : Config = reader_of strict command reply in
    let w : Ready (fresh c) = ready_fresh c (rw n m) in
    let a = gathers_cut (fresh c) w frames behind (sym n) v first more (e ∙ ap (λ (s : List ℕ). s ++ behind) (sym j)) in
    let t : wrap (0 + 13 * length frames) ≡ 13 * length frames = omega arith in
    record {
      complete = ap completeness a.0 ∙ gathered-complete (fresh c) w frames behind (sym n) v;
      collected = ap (λ (r : Reader). r.collected) a.0;
      taken = ap (λ (r : Reader). r.taken) a.0 ∙ t;
      held = ap (λ (r : Reader). r.held) a.0;
      discarded = ap (λ (r : Reader). r.discarded) a.0;
      cleared = ap (λ (r : Reader). r.cleared) a.0;
      status = a.1;
    }

module _ (strict : Bool) (address command : ℕ) (bytes : List ℕ) (heard : Heard strict address) (h : length bytes ≡ 8) where
  abbrev whole : List ℕ
  whole = frame address command bytes

  of_one : frames_of (length whole) ≡ 1
  of_one = sized 1 (length whole) (frame-long address command bytes h)

  one_valid : Numbered (reader_of strict command whole) (whole ∷ [])
  one_valid zero l = frame_valid (reader_of strict command whole) address 1 bytes h heard (λ more. absurd (omega (arith, of_one)))
  one_valid (suc i) l = absurd (omega (arith, l))

  one_met : Meets strict command (frame address command bytes ∷ []) (frame address command bytes)
  unfolding joined
  one_met = meets strict command (whole ∷ []) whole (append-nil whole) (omega arith) of_one one_valid

module _ (strict : Bool) (address command many : ℕ) (bytes : List ℕ) (n : ℕ) (heard : Heard strict address) (h : n ≤ 85) where
  abbrev f : ℕ → List ℕ
  f = numbered_frame address command many bytes

  abbrev all : List ℕ
  all = numbered_reply address command many bytes n

  each_valid : (i : ℕ) → Valid (reader_of strict command all) (suc i) (f i)
  unfolding numbered_frame
  each_valid i =
      let d : List ℕ = (i + 1) ∷ seven_of many bytes i in
      frame_valid (reader_of strict command all) address (suc i) d refl heard (λ more. frame_data address command d refl 0 (omega arith) ∙ add-one i)

  all_valid : Numbered (reader_of strict command all) (firsts (numbered_frame address command many bytes) n)
  all_valid i l = rw (get_or-firsts f n i [] (omega (arith, l, length-firsts f n))) (each_valid i)

  numbered_met : Meets strict command (firsts (numbered_frame address command many bytes) n) (numbered_reply address command many bytes n)
  unfolding numbered_reply
  numbered_met =
      let m : length (firsts f n) ≡ n = length-firsts f n in
      meets strict command (firsts f n) all refl (omega (arith, m)) (sized n (length all) (reply-long address command many bytes n) ∙ sym m) all_valid

-- for every reply that is written
pub met : ReaderMeets
met = record { one = one_met; numbered = numbered_met }
