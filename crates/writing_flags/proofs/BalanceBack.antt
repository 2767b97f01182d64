-- A 97 reply is read back flag by flag, for every list that is accepted. Assumes nothing.
use mathlib.Core.Path.{◌≡◌, refl, ap, ◌∙◌}
use mathlib.Core.Bool.{Bool, false}
use mathlib.Core.List.{List, [], ◌∷◌, ◌++◌}
use Prim.Native.Nat.{ℕ, ◌+◌, ◌*◌, ◌/◌, ◌%◌, ◌≤◌, ◌<◌}
use native.Mathlib.Nat.{div-add-mod, mod-lt}
use native.Mathlib.Omega.{arith}
use borrow.Author.Tests.{le-ltb}
use lib.ListN.{length, get_or, get_or-append}
use Rattle.wire.specs.Bytes.{byte_at, bit, byte_of}
use Rattle.wire.specs.Lists.{firsts}
use Rattle.wire.proofs.Firsts.{get_or-firsts, firsts-are}
use Rattle.wire.proofs.Packing.{byte_back}
use Rattle.frame.specs.Refusals.{sound}
use Rattle.frame.proofs.Sound.{frame-long, frame_data, frame_sound}
use Rattle.list.specs.Listed.{gate}
use Rattle.flags.specs.Balance.{flag_count, flag_at, balance_check}
use Rattle.writing_flags.specs.Replies.{balance_reply}

module _ (address : ℕ) (flags : List Bool) where
  -- the reply's data, by their places
  abbrev bytes : List ℕ
  bytes = firsts (λ j. byte_of flags (8 * j) 8) 6 ++ (0 ∷ 0 ∷ [])

  abbrev reply : List ℕ
  reply = balance_reply address flags

  flag_back : (i : ℕ) → i < 48 → flag_at reply i ≡ get_or flags i false
  flag_back i h =
      let j : i / 8 < 6 = omega arith in
      let a : byte_at reply (4 + i / 8) ≡ byte_of flags (8 * (i / 8)) 8 =
      frame_data address 0x97 bytes refl (i / 8) (omega arith)
      ∙ get_or-append (firsts (λ j. byte_of flags (8 * j) 8) 6) (0 ∷ 0 ∷ []) 0 (i / 8) (omega arith)
      ∙ get_or-firsts (λ j. byte_of flags (8 * j) 8) 6 (i / 8) 0 j in
      ap (λ (b : ℕ). bit b (i % 8)) a
      ∙ byte_back flags (8 * (i / 8)) 8 (i % 8) (mod-lt i (omega arith))
      ∙ ap (λ (n : ℕ). get_or flags n false) (div-add-mod i 8)

  module _ (some : 1 ≤ length flags) (few : length flags ≤ 48) where
    all_asked : flag_count (length flags) ≡ length flags
    all_asked = omega arith

    -- the decoder refuses it for no room that is enough
    pub balance_sound : (room : ℕ) → length flags ≤ room → balance_check reply (length flags) room ≡ sound
    unfolding gate
    balance_sound room r = rw (frame-long address 0x97 bytes refl, all_asked, le-ltb room (length flags) r) (frame_sound address 0x97 bytes refl)

    -- and reads the list that was meant
    pub balance_back : firsts (flag_at reply) (flag_count (length flags)) ≡ flags
    balance_back = rw all_asked (firsts-are (flag_at reply) flags false (λ i h. flag_back i (omega arith)))
