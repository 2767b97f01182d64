-- The input's bytes as they come, in chunks: what stands after each, and that only the bytes decide. Definitions only.
use Rattle.std.specs.Prelude.{ℕ, ◌≡◌, ⊤, cond, List, [], ◌∷◌, length, get_or}
use Rattle.frame.specs.declared.refusal.Refusal.TheVariants.{RequestTooShort}
use Rattle.rules.specs.Reader.{Discards, Reader, all_of, fresh, joined, answer}
use Rattle.reader.specs.View.{five_in, view}
use Rattle.reader.specs.declared.Counts.{Counts}
use Rattle.report.specs.declared.Tally.{Tally}
use Rattle.report.specs.Lines.{refusal_line}
use Rattle.reply.specs.declared.Input.{Input}
use Rattle.reply.specs.declared.Input.TheVariants.{Nothing, Command, Stream}
use Rattle.reply.specs.Output.{known, asked, reported, output_of}

-- how far the input has come: nothing, its first byte, or its first two and the reader of what follows
pub data State : Type 0 where
  nothing : State
  first : ℕ → State
  stream : ℕ → ℕ → Reader → State

-- the enum and the frames that are lent beside it
unfoldable pub state_of : Input → List ℕ → State
state_of Nothing f = nothing
state_of (Command c) f = first c
state_of (Stream a) f = stream a.command a.count (view a.counts f)

-- its tally has seven counts
abbrev pub HasSeven : Input → Type 0
HasSeven Nothing = ⊤
HasSeven (Command c) = ⊤
HasSeven (Stream a) = length a.counts.tally ≡ 7

-- nothing has come yet
abbrev pub begun : Input
begun = Nothing

-- bytes behind the first two
unfoldable pub streamed : ℕ → ℕ → Reader → List ℕ → State
streamed c n r s = stream c n (cond (known c) (answer r s).reader r)

-- the second byte, and what follows
unfoldable pub from_second : ℕ → List ℕ → State
from_second c [] = first c
from_second c (n ∷ s) = streamed c n (fresh (asked c n)) s

-- the first byte, and what follows
unfoldable pub from_first : List ℕ → State
from_first [] = nothing
from_first (c ∷ s) = from_second c s

-- the next bytes of the input, by how many have come
unfoldable pub pushed : State → List ℕ → State
pushed nothing s = from_first s
pushed (first c) s = from_second c s
pushed (stream c n r) s = streamed c n r s

-- what is printed when nothing more comes
unfoldable pub printed : State → List ℕ
printed nothing = refusal_line RequestTooShort
printed (first c) = refusal_line RequestTooShort
printed (stream c n r) = reported c n r

-- the counts line's numbers, from the struct
abbrev pub tally_of : Counts → Tally
tally_of c =
    let d : Discards = five_in c.tally in
    record {
      taken = get_or c.tally 0 0;
      held = c.held;
      frames = c.collected;
      discarded = all_of d;
      cleared = get_or c.tally 6 0;
      noise = d.noise;
      sum = d.sum;
      command = d.command;
      number = d.number;
      echo = d.echo;
    }

-- chunks pushed one after the other, by any function with the contract of `push`
abbrev pub Came : List (List ℕ) → Input → List ℕ → Input → List ℕ → Type 0
Came [] i f i' f' = (i' ≡ i) × (f' ≡ f)
Came (s ∷ ss) i f i' f' = (i₁ : Input) × (f₁ : List ℕ) × (state_of i₁ f₁ ≡ pushed (state_of i f) s) × Came ss i₁ f₁ i' f'

-- for every input, in any chunks, whatever the lent frames held before: the text is a function of the input's bytes
abbrev pub HoweverCut : Type 0
HoweverCut = (chunks : List (List ℕ)) (f : List ℕ) (i' : Input) (f' : List ℕ) → Came chunks begun f i' f' → printed (state_of i' f') ≡ output_of (joined chunks)

-- no contract can say what a read brings: but the text is that of some input, whatever came
abbrev pub OfSomeInput : Input → List ℕ → Type 0
OfSomeInput i f = (s : List ℕ) × (printed (state_of i f) ≡ output_of s)
