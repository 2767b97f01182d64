-- What an auditor gets of demand 3 (`cuts_dont_matter` proves it), who writes the ledger of a stream down by the rules, weighs the
-- frames against the stream, and reads a worked stream off. It uses every condition of the demand, so that a weaker one fails here.
use mathlib.Core.Path.{◌≡◌, refl, sym, ap, ◌∙◌}
use mathlib.Core.Bool.{true, false}
use mathlib.Core.List.{List, [], ◌∷◌, ◌++◌}
use mathlib.Core.Option.{Option, none, some}
use Prim.Native.Nat.{ℕ, suc, ◌+◌, ◌*◌, ◌≤◌, ◌<◌}
use native.Mathlib.Omega.{arith}
use lib.ListN.{length, take, get_or, replicate, length-append}
use Rattle.wire.specs.Bytes.{byte_at}
use Rattle.frame.specs.Frame.{sum, total}
use Rattle.rules.specs.Rules.{Config, Fate, noise, discarded as thrown, sum_right, restarts, judge, look, stay, after, drops}
use Rattle.rules.specs.Ledger.{Line, lost_for, discards_for, clears, spent, turns, run, total as counted}
use Rattle.rules.specs.Reader.{each, Reader, Answer, wrap, fresh, complete, held_of, untaken, did, booked, push, status, bad, answer, joined}
use Rattle.rules.specs.Demand.{Lawful, left_of, Within, answers, Account, Valid, Collected, Demand, CutsDontMatter}
use Rattle.rules.proofs.Examples.{five, answered, c90, strict95, frame90, f1, f2, f3, echo1}

-- the reader that is left after some chunks
abbrev left : Config → List ℕ → List (List ℕ) → Reader
left c first more = (answers (fresh c) first more).reader

-- whoever follows the rules on the whole stream, line by line, has each byte where the reader has it, and the reader's counts
pub by_hand : CutsDontMatter → (c : Config) → c.wanted ≤ 85 → (first : List ℕ) (more : List (List ℕ)) (ls : List Line) → Lawful c [] (joined (first ∷ more)) ls
    → (spent ls ++ ((left c first more).held ++ left_of c (joined (first ∷ more))) ≡ joined (first ∷ more))
    × ((left c first more).discarded ≡ each (λ y. wrap (discards_for y ls)))
    × ((left c first more).cleared ≡ wrap (clears ls))
by_hand demand c h first more ls law =
    let a = (demand c h first more).account in
    let e = a.only ls law in (
      ap (λ (l : List Line). spent l ++ ((left c first more).held ++ left_of c (joined (first ∷ more)))) e ∙ a.bytes,
      a.discarded ∙ ap (λ (l : List Line). each (λ y. wrap (discards_for y l))) (sym e),
      a.cleared ∙ ap (λ (l : List Line). wrap (clears l)) (sym e),
    )

-- parts of 13 bytes that stand in a stream one behind the other are no longer than it
apart : (fs : List (List ℕ)) (s : List ℕ) → ((i : ℕ) → i < length fs → length (get_or fs i []) ≡ 13) → Within fs s → 13 * length fs ≤ length s
apart [] s h w = omega arith
apart (f ∷ fs) s h (gap, t, e, w) =
    let first : length f ≡ 13 = h 0 (omega arith) in
    let rest : 13 * length fs ≤ length t = apart fs t (λ i l. h (suc i) (omega (arith, l))) w in
    let whole : length s ≡ length gap + (length f + length t) = ap length e ∙ length-append gap (f ++ t) ∙ ap (λ (n : ℕ). length gap + n) (length-append f t) in
    omega (arith, first, rest, whole)

-- no byte of the stream is in two frames of a reply: it has 13 for each
pub no_frame_twice : CutsDontMatter → (c : Config) → c.wanted ≤ 85 → (first : List ℕ) (more : List (List ℕ))
    → 13 * length (left c first more).collected ≤ length (joined (first ∷ more))
no_frame_twice demand c h first more =
    let k = (demand c h first more).collected in
    apart (left c first more).collected (joined (first ∷ more)) (λ i l. (k.numbered i l).whole) k.within

-- ---- worked streams, read off through the demand

-- two numbers that are the same, one as the demand works it out and one as it is expected
abbrev is : ℕ → ℕ → Type 0
is a b = a ≡ b

-- to a strict reader: noise, a start byte whose sum is wrong, a frame of another command, then frames 1, 3, 1, an echo, frame 2 and a byte that may begin the next: cut in three
abbrev first : List ℕ
first = 7 ∷ 0xA5 ∷ 0xA5 ∷ 0x01 ∷ []

abbrev more : List (List ℕ)
more = (0x91 ∷ 0x08 ∷ 0 ∷ 0 ∷ 0 ∷ 0 ∷ 0 ∷ 0 ∷ 0 ∷ 0 ∷ 0x3F ∷ f1 ++ f3) ∷ (f1 ++ echo1 ++ f2 ++ (0xA5 ∷ [])) ∷ []

abbrev mixed : Answer
mixed = answers (fresh strict95) first more

abbrev of_mixed : CutsDontMatter → Demand strict95 (joined (first ∷ more)) mixed
of_mixed demand = demand strict95 (omega arith) first more

-- "collected frames, held bytes, last status and all counts at the end are the same" as of the stream in one push
read_same : CutsDontMatter → (mixed.reader ≡ (answered strict95 0 0 (f1 ∷ f2 ∷ []) (0xA5 ∷ []) 81 (five 1 1 13 13 13) 1 false).reader) × (mixed.status ≡ 0)
unfolding answers answer bad status push did run turns look judge restarts sum_right sum total after drops stay booked counted lost_for complete held_of untaken spent joined
read_same demand = ((of_mixed demand).same, (of_mixed demand).status)

-- each count by its own rule, and 81 = 1 held + 2 * 13 collected + 1 + 1 + 13 + 13 + 13 discarded, each for its reason, + 1 * 13 cleared
read-counts : CutsDontMatter → (mixed.reader.taken ≡ 81) × (mixed.reader.discarded ≡ five 1 1 13 13 13) × (mixed.reader.cleared ≡ 1) × (mixed.reader.taken ≡ 81)
unfolding answers answer bad status push did run turns look judge restarts sum_right sum total after drops stay booked counted lost_for complete held_of untaken spent joined
read-counts demand = let a : Account strict95 (joined (first ∷ more)) mixed.reader = (of_mixed demand).account in (a.taken, a.discarded, a.cleared, a.sum)

-- "separate 13-byte parts of the stream, .. each valid": its length, A5, sum, command, and its number, which is the frame's place
read-frames : CutsDontMatter
    → (2 ≤ 3) × is 13 13 × is 0xA5 0xA5 × is 0x45 0x45 × is 0x95 0x95 × (1 < 3 → is 2 2)
unfolding answers answer bad status push did run turns look judge restarts sum_right sum total after drops stay booked counted lost_for complete held_of untaken spent joined
read-frames demand =
    let k : Collected strict95 (joined (first ∷ more)) mixed.reader = (of_mixed demand).collected in
    let v = k.numbered 1 (omega arith) in
    (k.few, v.whole, v.start, v.total, v.command, v.number)

-- and of any valid frame: its last byte is the sum of the twelve before it
read-sum : (c : Config) (i : ℕ) (w : List ℕ) → Valid c i w → byte_at w 12 ≡ sum (take 12 w)
read-sum c i w v = v.total

-- "valid in that mode": whatever came, no frame that a strict reader has collected is an echo
read-sender : CutsDontMatter → (c : Config) → c.wanted ≤ 85 → c.strict ≡ true → (first : List ℕ) (more : List (List ℕ)) (i : ℕ)
    → i < length (left c first more).collected → byte_at (get_or (left c first more).collected i []) 1 ≡ 0x40 → ⊥
read-sender demand c few strict first more i l = ((demand c few first more).collected.numbered i l).sender strict

-- the number is read as soon as two frames are wanted, and a complete reader has both
abbrev c95_two : Config
c95_two = record { command = 0x95; wanted = 2; strict = false }

read-two : CutsDontMatter → (1 < 2 → is 1 1) × is 2 2
unfolding answers answer bad status push did run turns look judge restarts sum_right sum total after drops stay booked counted lost_for complete held_of untaken spent joined
read-two demand =
    let k : Collected c95_two (f1 ++ f2) (answers (fresh c95_two) (f1 ++ f2) []).reader = (demand c95_two (omega arith) (f1 ++ f2) []).collected in
    ((k.numbered 0 (omega arith)).number, k.full refl)

-- a ledger of one line: the turn that the rules make, its line, and no turn more; and it is as long as its fate says
read-ledger : CutsDontMatter
    → ((◌≡◌ {A = Option Fate} (some (thrown noise)) (some (thrown noise)))
    × (◌≡◌ {A = Line} (record { fate = thrown noise; bytes = 7 ∷ []; cleared = 0 }) (record { fate = thrown noise; bytes = 7 ∷ []; cleared = 0 }))
    × (◌≡◌ {A = Option Fate} none none))
    × (is 1 1 × Unit {0})
unfolding answers answer bad status push did run turns look judge restarts sum_right sum total after drops stay booked counted lost_for complete held_of untaken spent joined
read-ledger demand = let a : Account c90 (7 ∷ []) (answers (fresh c90) (7 ∷ []) []).reader = (demand c90 (omega arith) (7 ∷ []) []).account in (a.lawful, a.sized)

-- every byte has its place: in the ledger or held; and what comes behind the reply is left
read-bytes : CutsDontMatter → (◌≡◌ {A = List ℕ} (7 ∷ 0xA5 ∷ []) (7 ∷ 0xA5 ∷ [])) × (◌≡◌ {A = List ℕ} (frame90 ++ (1 ∷ 2 ∷ [])) (frame90 ++ (1 ∷ 2 ∷ [])))
unfolding answers answer bad status push did run turns look judge restarts sum_right sum total after drops stay booked counted lost_for complete held_of untaken spent joined
read-bytes demand =
    let a : Account c90 (7 ∷ 0xA5 ∷ []) (answers (fresh c90) (7 ∷ 0xA5 ∷ []) []).reader = (demand c90 (omega arith) (7 ∷ 0xA5 ∷ []) []).account in
    let b : Account c90 (frame90 ++ (1 ∷ 2 ∷ [])) (answers (fresh c90) (frame90 ++ (1 ∷ 2 ∷ [])) []).reader = (demand c90 (omega arith) (frame90 ++ (1 ∷ 2 ∷ [])) []).account in
    (a.bytes, b.bytes)

-- "set when .. over 512": not at 512, at 513
read-mark : CutsDontMatter
    → ((answers (fresh c90) (replicate 512 0) []).reader.mark ≡ false) × ((answers (fresh c90) (replicate 513 0) []).reader.mark ≡ true)
unfolding answers answer bad status push did run turns look judge restarts sum_right sum total after drops stay booked counted lost_for complete held_of untaken spent joined
read-mark demand =
    let a : Account c90 (replicate 512 0) (answers (fresh c90) (replicate 512 0) []).reader = (demand c90 (omega arith) (replicate 512 0) []).account in
    let b : Account c90 (replicate 513 0) (answers (fresh c90) (replicate 513 0) []).reader = (demand c90 (omega arith) (replicate 513 0) []).account in
    (a.mark, b.mark)
