-- What each function of the crate does to the input's state. Assumes nothing.
use Rattle.std.specs.Prelude.{if◌then◌else◌}
use mathlib.Core.Path.{◌≡◌, refl, sym, ap, ◌∙◌}
use mathlib.Core.Bool.{Bool, true, false, cond}
use mathlib.Core.List.{List, [], ◌∷◌}
use Prim.Native.Nat.{ℕ, ◌*◌, ◌≤◌, ◌<◌, min}
use native.Mathlib.Omega.{arith}
use lib.Dec.{ltb, eqb}
use borrow.Author.Tests.{ltb-true, ltb-false}
use lib.ListN.{length, take, drop, get_or}
use lib.Seq.{take_all}
use Rattle.frame.specs.declared.refusal.Refusal.{Refusal}
use Rattle.frame.specs.declared.refusal.Refusal.TheVariants.{RequestTooShort}
use Rattle.frame.specs.Refusals.{refusal_number}
use Rattle.list.specs.Numbered.{reply_size}
use Rattle.rules.specs.Reader.{Discards, Reader, Answer, all_of, joined, status, answer}
use Rattle.reader.specs.View.{five_in, view, chop, Answered}
use Rattle.reader.specs.declared.Counts.{Counts}
use Rattle.reader.proofs.Parts.{length-chop, length_front, joined-chop}
use Rattle.text.specs.Words.{word}
use Rattle.text.specs.Text.{Put, place}
use Rattle.text.proofs.Long.{line-few}
use Rattle.report.specs.declared.Tally.{Tally}
use Rattle.report.specs.Lines.{refusal_line}
use Rattle.report.specs.Report.{report_text}
use Rattle.report.proofs.Long.{report-few}
use mathlib.Core.Logic.{◌⊎◌, inl, inr}
use Rattle.reply.specs.declared.Question.{Question}
use Rattle.reply.specs.declared.Input.{Input}
use Rattle.reply.specs.declared.Input.TheVariants.{Nothing, Command}
use Rattle.reply.specs.Output.{known, reply_size_for, tally, reply_text}
use Rattle.reply.specs.Input.{nothing, first, stream, streamed, from_second, from_first, state_of, printed, tally_of}

-- ---- the stream

pub streamed_unknown : (c n : ℕ) (r : Reader) (s : List ℕ) → known c ≡ false → stream c n r ≡ streamed c n r s
unfolding streamed
streamed_unknown c n r s e = rw e

-- a push's answer, put back into the struct
pub streamed-told : (a : Question) (f s : List ℕ) (status took : ℕ) (c' : Counts) (f' : List ℕ) → known a.command ≡ true
    → Answered f a.counts s status took c' f'
    → stream a.command a.count (view c' f') ≡ streamed a.command a.count (view a.counts f) s
unfolding streamed
streamed-told a f s status took c' f' e p =
    let r : view c' f' ≡ (answer (view a.counts f) s).reader = ap (λ (x : Answer). x.reader) p.by-rule in
    rw e (ap (stream a.command a.count) r)

-- ---- the first two bytes

pub second-none : (c : ℕ) (s : List ℕ) → length s ≡ 0 → first c ≡ from_second c s
unfolding from_second
second-none c [] e = refl
second-none c (x ∷ s) e = absurd (omega arith)

pub first-none : (s : List ℕ) → length s ≡ 0 → nothing ≡ from_first s
unfolding from_first
first-none [] e = refl
first-none (x ∷ s) e = absurd (omega arith)

-- ---- the text

pub size_few : (command count : ℕ) → count < 256 → reply_size_for command count ≤ 1105
unfolding reply_size_for
size_few command count h = go (eqb command 0x95) (eqb command 0x96)
  where
    go : (t u : Bool) → cond t (reply_size 3 count) (cond u (reply_size 7 count) 13) ≤ 1105
    go true u = omega arith
    go false true = omega arith
    go false false = omega arith

-- the reader's collected bytes, of an array of 1,105
front_bytes : (k : ℕ) (f : List ℕ) → length f ≡ 1105 → take (min (13 * k) 1105) f ≡ joined (chop k f)
front_bytes k f h = go (ltb k 85) refl
  where
    go : (t : Bool) → ltb k 85 ≡ t → take (min (13 * k) 1105) f ≡ joined (chop k f)
    go true e = let n : min (13 * k) 1105 ≡ 13 * k = omega (arith, ltb-true k 85 e) in rw (n, joined-chop k f)
    go false e =
        let n : min (13 * k) 1105 ≡ 1105 = omega (arith, ltb-false k 85 e) in
        rw (n, joined-chop k f, take_all 1105 f (omega arith), take_all (13 * k) f (omega (arith, ltb-false k 85 e)))

view-bytes : (c : Counts) (f : List ℕ) → length f ≡ 1105 → take (min (13 * c.collected) 1105) f ≡ joined (view c f).collected
unfolding view
view-bytes c f h = front_bytes c.collected f h

same-tally : (c : Counts) (f : List ℕ) → tally (view c f) ≡ tally_of c
unfolding view
same-tally c f =
    let d : Discards = five_in c.tally in
    λ i. record {
      taken = get_or c.tally 0 0;
      held = length_front c.held (drop (13 * c.collected) f) i;
      frames = length-chop c.collected f i;
      discarded = all_of d;
      cleared = get_or c.tally 6 0;
      noise = d.noise;
      sum = d.sum;
      command = d.command;
      number = d.number;
      echo = d.echo;
    }

same-status : (c : Counts) (f : List ℕ) → ◌≡◌ {A = ℕ} (cond c.mark 2 0) (status (view c f))
unfolding view status
same-status c f = go c.mark
  where
    go : (b : Bool) → ◌≡◌ {A = ℕ} (cond b 2 0) (if b then 2 else 0)
    go true = refl
    go false = refl

pub reply-text : (i : Question) (f : List ℕ) (n : ℕ) (t : Tally) (st : ℕ) → length f ≡ 1105 → n ≡ min (13 * i.counts.collected) 1105 → t ≡ tally_of i.counts
    → st ≡ cond i.counts.mark 2 0 → report_text i.command i.count t (take n f) st ≡ reply_text i.command i.count (view i.counts f)
reply-text i f n t st h a b d =
    let bytes : take n f ≡ joined (view i.counts f).collected = ap (λ k. take k f) a ∙ view-bytes i.counts f h in
    λ k. report_text i.command i.count ((b ∙ sym (same-tally i.counts f)) k) (bytes k) ((d ∙ same-status i.counts f) k)

-- before two bytes have come
pub printed_short : (i : Input) (f : List ℕ) → (i ≡ Nothing) ⊎ ((c : ℕ) × (i ≡ Command c)) → refusal_line RequestTooShort ≡ printed (state_of i f)
unfolding printed state_of
printed_short i f (inl e) = rw e
printed_short i f (inr (c, e)) = rw e

-- ---- 8,192 bytes hold every text

pub refusal-few : (r : Refusal) (out exit : List ℕ) (n : ℕ) → Put out 0 (refusal_line r) exit n → n ≤ 8192
unfolding place
refusal-few r out exit n p = omega (arith, p.ends, line-few (word "refused") (refusal_number r))

pub reply-few : (i : Question) (f out exit : List ℕ) (n : ℕ) → i.count < 256 → Put out 0 (reply_text i.command i.count (view i.counts f)) exit n → n ≤ 8192
unfolding place
reply-few i f out exit n h p =
    let r : Reader = view i.counts f in
    omega (arith, p.ends, report-few i.command i.count (tally r) (joined r.collected) (status r) h)
