-- A written reply, whatever stands behind it and however it is cut, is what a fresh reader of its size ends with. Definitions only.
use Rattle.std.specs.Prelude.{ℕ, ◌*◌, ◌≤◌, ◌≡◌, Bool, true, List, [], ◌∷◌, ◌++◌, length}
use Rattle.wire.specs.Lists.{firsts}
use Rattle.frame.specs.Frame.{frame}
use Rattle.rules.specs.Rules.{Config}
use Rattle.rules.specs.Reader.{each, Answer, fresh, frames_of, completeness, joined}
use Rattle.rules.specs.Demand.{answers}
use Rattle.writing_lists.specs.Numbered.{numbered_frame, numbered_reply}

-- a reader of the reply's size, in either mode: "it wants n = ceil(size/13) frames"
abbrev pub reader_of : Bool → ℕ → List ℕ → Config
reader_of strict command reply = record { command = command; wanted = frames_of (length reply); strict = strict }

-- "A reader opened in strict mode discards an echo": a board that answers from any address but our own is heard in both modes
abbrev pub Heard : Bool → ℕ → Type 0
Heard strict address = strict ≡ true → address ≡ 0x40 → ⊥

-- the last answer: complete with exactly these frames; no other byte is taken, none is held or discarded, no frame is cleared
pub record Met (frames : List (List ℕ)) (a : Answer) : Type 0 where
  pub complete : completeness a.reader ≡ true
  pub collected : a.reader.collected ≡ frames
  pub taken : a.reader.taken ≡ 13 * length frames
  pub held : a.reader.held ≡ []
  pub discarded : a.reader.discarded ≡ each (λ y. 0)
  pub cleared : a.reader.cleared ≡ 0
  pub status : a.status ≡ 0

-- the reply of these frames, with any bytes behind it, in one or more chunks
abbrev pub Meets : Bool → ℕ → List (List ℕ) → List ℕ → Type 0
Meets strict command frames reply =
    (behind first : List ℕ) (more : List (List ℕ)) → joined (first ∷ more) ≡ reply ++ behind
    → Met frames (answers (fresh (reader_of strict command reply)) first more)

-- every reply that is written: one frame of eight data bytes, or 0 to 85 numbered frames
pub record ReaderMeets : Type 0 where
  pub one : (strict : Bool) (address command : ℕ) (bytes : List ℕ) → Heard strict address → length bytes ≡ 8
      → Meets strict command (frame address command bytes ∷ []) (frame address command bytes)
  pub numbered : (strict : Bool) (address command many : ℕ) (bytes : List ℕ) (n : ℕ) → Heard strict address → n ≤ 85
      → Meets strict command (firsts (numbered_frame address command many bytes) n) (numbered_reply address command many bytes n)
