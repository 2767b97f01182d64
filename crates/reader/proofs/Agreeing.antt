-- Pushes on a lent reader agree, whatever their code: their statement allows one answer. Assumes nothing.
use Rattle.std.proofs.Common.{◌≡◌, ℕ, List, ap}
use Rattle.wire.proofs.Decides.{both}
use Rattle.reader.specs.Lent.{AnsweredLent, TurnedLent, PushesAgree}
use Rattle.reader.specs.declared.FrameReader.{FrameReader}
use Rattle.reader.specs.declared.pushing.Said.{Said}
use Rattle.reader.specs.declared.pushing.Turn.{Turn}
use Rattle.reader.specs.declared.pushing.Told.{Told}
use Rattle.reader.proofs.Promise.{shown, told_once, answered-refused}
use Rattle.reader.proofs.Turning.{turned_into_once}

-- what a push says, and the reader's numbers
abbrev told_of : Said → FrameReader → Told
told_of x a = record { said = x; counts = a.counts }

-- THE PUSHES AGREE
pub pushes_agree : PushesAgree
pushes_agree before chunk x y a b p q =
    let e = told_once {f = before.frames} {c = before.counts} {s = chunk} {x = told_of x a} {y = told_of y b} {g = a.frames} {h = b.frames} p q in
    record {
      said = ap (λ z. z.0.said) e;
      counts = ap (λ z. z.0.counts) e;
      seen = ap (λ z. z.1.0) e;
      refused = λ bad.
          let m = answered-refused before.frames before.counts chunk x.status x.took a.counts a.frames p bad in
          let n = answered-refused before.frames before.counts chunk y.status y.took b.counts b.frames q bad in
          ((λ i. record { counts = m.2 i; frames = m.3 i }), (λ i. record { counts = n.2 i; frames = n.3 i }));
    }

-- so each is pinned: all but the places of the array that no one sees, and with 8 those too
abbrev pub LentDecides : Type 0
LentDecides =
    (before : FrameReader) (chunk : List ℕ) (x y : Said) (a b : FrameReader)
    → AnsweredLent before chunk x a → AnsweredLent before chunk y b
    → both x (shown x.status a.counts a.frames) ≡ both y (shown y.status b.counts b.frames)

pub answered_once : LentDecides
answered_once before chunk x y a b p q =
    let e = told_once {f = before.frames} {c = before.counts} {s = chunk} {x = told_of x a} {y = told_of y b} {g = a.frames} {h = b.frames} p q in
    λ i. both (e i).0.said (e i).1

-- and so is the one that tells what is then missing
abbrev pub TurnDecides : Type 0
TurnDecides =
    (before : FrameReader) (chunk : List ℕ) (x y : Turn) (a b : FrameReader)
    → TurnedLent before chunk x a → TurnedLent before chunk y b
    → both x (shown x.status a.counts a.frames) ≡ both y (shown y.status b.counts b.frames)

pub turned_once : TurnDecides
turned_once before chunk x y a b p q =
    let e = turned_into_once {f = before.frames} {c = before.counts} {s = chunk} {x = x} {y = y} {m = a.counts} {n = b.counts} {g = a.frames} {h = b.frames} p q in
    λ i. both (e i).0 (e i).1.1
