-- What an auditor gets of demand 3 of the code (`code_cuts_dont_matter` proves it) and of pushes that agree (`pushes_agree`): each
-- condition is used, so that a weaker one fails here.
use Rattle.std.proofs.Common.{◌≡◌, ℕ, ◌≤◌, Bool, true, false, List, [], ◌∷◌, ap}
use Rattle.rules.specs.Reader.{fresh, push, status, bad, joined, missing}
use Rattle.reader.specs.View.{config, view, Answered}
use Rattle.reader.specs.Told.{fresh_counts, fresh_reader}
use Rattle.reader.specs.Cuts.{CodeCutsDontMatter}
use Rattle.reader.specs.Lent.{OpenedLent, TurnedLent, PushesAgree}
use Rattle.reader.specs.declared.Counts.{Counts}
use Rattle.reader.specs.declared.FrameReader.{FrameReader}
use Rattle.reader.specs.declared.fresh.Opened.{Opened}
use Rattle.reader.specs.declared.pushing.Said.{Said}
use Rattle.reader.specs.declared.pushing.Turn.{Turn}

-- two pushes by their contract into a new reader of up to 85 frames, in either mode, leave what one push of both chunks leaves
pub in_two : CodeCutsDontMatter → (command wanted : ℕ) (strict : Bool) → wanted ≤ 85
    → (s t f : List ℕ) (st₁ tk₁ : ℕ) (c₁ : Counts) (f₁ : List ℕ) (st tk : ℕ) (c' : Counts) (f' : List ℕ)
    → Answered f (fresh_counts command wanted strict) s st₁ tk₁ c₁ f₁ → Answered f₁ c₁ t st tk c' f'
    → (view c' f' ≡ push (fresh (config command wanted strict)) (joined (s ∷ t ∷ []))) × (st ≡ status (view c' f'))
in_two code command wanted strict few s t f st₁ tk₁ c₁ f₁ st tk c' f' a b =
    let d = code command wanted strict few s (t ∷ []) f st tk c' f' (c₁, f₁, st₁, tk₁, a, b) in (d.same, d.status)

-- two pushes on lent readers, by the contract of the push by value, say the same and leave the same; refused, both leave it as it was
pub either_push : PushesAgree → (before : FrameReader) (chunk : List ℕ) (x y : Said) (a b : FrameReader)
    → Answered before.frames before.counts chunk x.status x.took a.counts a.frames
    → Answered before.frames before.counts chunk y.status y.took b.counts b.frames
    → (x ≡ y) × (a.counts ≡ b.counts) × (view a.counts a.frames ≡ view b.counts b.frames)
    × (bad (view before.counts before.frames) ≡ true → (a ≡ before) × (b ≡ before))
either_push agree before chunk x y a b p q = let e = agree before chunk x y a b p q in (e.said, e.counts, e.seen, e.refused)

-- the push that controllers call is one of these, and tells what the reader that it leaves is missing
pub turned : (before : FrameReader) (chunk : List ℕ) (t : Turn) (after : FrameReader) → TurnedLent before chunk t after
    → Answered before.frames before.counts chunk t.status t.took after.counts after.frames
    × (t.missing ≡ missing (view after.counts after.frames))
turned before chunk t after q = (q.answered, q.missing)

-- a new reader in the caller's place, for 14 bytes of a reply to 95, in the mode that was asked; and one that is refused, 7 before 6, which is never strict
pub made : (strict : Bool) (number : ℕ) (after : FrameReader) → OpenedLent (0xA5 ∷ 0x40 ∷ 0x95 ∷ []) 14 strict number after → (number ≡ 0) × (after ≡ fresh_reader 0x95 2 strict)
made strict number after q = (ap (λ (x : Opened). x.number) q, ap (λ (x : Opened). x.reader) q)

pub not_made : (strict : Bool) (number : ℕ) (after : FrameReader) → OpenedLent (0xA5 ∷ 0x40 ∷ []) 1106 strict number after → (number ≡ 7) × (after ≡ fresh_reader 0 0 false)
not_made strict number after q = (ap (λ (x : Opened). x.number) q, ap (λ (x : Opened). x.reader) q)
