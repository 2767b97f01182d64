-- The reader where the caller has it: what is seen of it, a new one, and the push. Definitions only.
use Rattle.std.specs.Prelude.{◌≡◌, ℕ, Bool, true, List}
use Rattle.rules.specs.Reader.{Reader, bad, missing}
use Rattle.reader.specs.View.{view, Answered}
use Rattle.reader.specs.Told.{opened}
use Rattle.reader.specs.declared.fresh.Opened.{Opened}
use Rattle.reader.specs.declared.FrameReader.{FrameReader}
use Rattle.reader.specs.declared.Counts.{Counts}
use Rattle.reader.specs.declared.pushing.Said.{Said}
use Rattle.reader.specs.declared.pushing.Turn.{Turn}

-- a lent reader as the rules see it
abbrev pub seen : FrameReader → Reader
seen r = view r.counts r.frames

-- a new reader in the caller's place: the number that is answered, and the reader afterwards, to the last place
abbrev pub OpenedLent : List ℕ → ℕ → Bool → ℕ → FrameReader → Type 0
OpenedLent request size strict number after = ◌≡◌ {A = Opened} (record { number = number; reader = after }) (opened request size strict)

-- "push also exists as the Rust has it, on a reader lent by the caller, with the same meaning": what it says, and the reader afterwards
abbrev pub AnsweredLent : FrameReader → List ℕ → Said → FrameReader → Type 0
AnsweredLent before chunk said after =
    Answered before.frames before.counts chunk said.status said.took after.counts after.frames

-- so does the push that controllers call, which also says how many bytes the next frame then needs: a push of s into the reader c, f
-- that says t, and leaves c', f'
pub record TurnedInto (f : List ℕ) (c : Counts) (s : List ℕ) (t : Turn) (c' : Counts) (f' : List ℕ) : Type 0 where
  pub answered : Answered f c s t.status t.took c' f'
  pub missing : t.missing ≡ missing (view c' f')

abbrev pub TurnedLent : FrameReader → List ℕ → Turn → FrameReader → Type 0
TurnedLent before chunk turn after = TurnedInto before.frames before.counts chunk turn after.counts after.frames

-- two pushes of one chunk into one lent reader, each by that statement, say the same and leave the same reader: its numbers, its
-- collected frames and its held bytes; and where they refuse it, each leaves the reader as it was, to the last place
pub record Agree (before : FrameReader) (x : Said) (a : FrameReader) (y : Said) (b : FrameReader) : Type 0 where
  pub said : x ≡ y
  pub counts : a.counts ≡ b.counts
  pub seen : view a.counts a.frames ≡ view b.counts b.frames
  pub refused : bad (view before.counts before.frames) ≡ true → (a ≡ before) × (b ≡ before)

abbrev pub PushesAgree : Type 0
PushesAgree =
    (before : FrameReader) (chunk : List ℕ) (x y : Said) (a b : FrameReader)
    → AnsweredLent before chunk x a → AnsweredLent before chunk y b → Agree before x a y b
