-- The reader's struct as the rules see it, and what a push answers. Definitions only.
use Rattle.std.specs.Prelude.{◌≡◌, ℕ, zero, suc, ◌+◌, ◌*◌, Bool, true, List, [], ◌∷◌, length, take, drop, slice_index, Result, Ok, Err, ⊤}
use Rattle.rules.specs.Rules.{Config, Why, noise, wrong_sum, wrong_command, wrong_number, echo, Fate, discarded, collected}
use Rattle.rules.specs.Ledger.{place}
use Rattle.rules.specs.Reader.{Reader, Discards, each, bad, answer}
use Rattle.reader.specs.declared.Counts.{Counts}
use Rattle.reader.specs.declared.Standing.{Standing}
use Rattle.reader.specs.declared.asked.Asked.{Asked}
use Rattle.reader.specs.declared.tally.Why.{Why as Reason}
use Rattle.reader.specs.declared.tally.Why.TheVariants.{Noise, Sum, Command, Number, Echo}
use Rattle.reader.specs.declared.tally.Discarded.{Discarded}

abbrev pub config : ℕ → ℕ → Bool → Config
config command wanted strict = record { command = command; wanted = wanted; strict = strict }

abbrev pub config_of : Asked → Config
config_of a = config a.command a.wanted a.strict

-- ---- what becomes of bytes, as the code says it

abbrev pub reason : Reason → Why
reason Noise = noise
reason Sum = wrong_sum
reason Command = wrong_command
reason Number = wrong_number
reason Echo = echo

abbrev pub fate : Result ⊤ Reason → Fate
fate (Ok done) = collected
fate (Err y) = discarded (reason y)

-- ---- the tally: seven counts, of which the first is the bytes taken and the last the frames cleared

-- where a reason's bytes are counted in it: between those two, in document 02's order
abbrev pub seat : Why → ℕ
seat y = 1 + place y

-- the five counts in a tally
abbrev pub five_in : List ℕ → Discards
five_in t = each (λ y. slice_index t (seat y))

-- as C has them by name, and back
abbrev pub discarded_in : List ℕ → Discarded
discarded_in t = let d : Discards = five_in t in record { noise = d.noise; sum = d.sum; command = d.command; number = d.number; echo = d.echo }

abbrev pub reasons : Discarded → Discards
reasons d = record { noise = d.noise; sum = d.sum; command = d.command; number = d.number; echo = d.echo }

-- a reader's numbers, from its tally and the others; and the others
abbrev pub counted : Standing → List ℕ → Counts
counted c t = record { command = c.command; mark = c.mark; strict = c.strict; tally = t; wanted = c.wanted; collected = c.collected; held = c.held }

abbrev pub standing_of : Counts → Standing
standing_of c = record { command = c.command; mark = c.mark; strict = c.strict; wanted = c.wanted; collected = c.collected; held = c.held }

-- ---- the frames

-- the first k frames of a list of bytes
unfoldable pub chop : ℕ → List ℕ → List (List ℕ)
chop zero l = []
chop (suc k) l = take 13 l ∷ chop k (drop 13 l)

-- its first n bytes, with 0 for each that it does not have: n numbers in any case, so that a count which is too large shows
unfoldable pub front : ℕ → List ℕ → List ℕ
front zero l = []
front (suc n) l = slice_index l 0 ∷ front n (drop 1 l)

-- "The reader carries room for 1,105 collected bytes": the numbers c, and the bytes f with the held ones behind the collected frames
unfoldable pub view : Counts → List ℕ → Reader
view c f =
    record {
      config = config c.command c.wanted c.strict;
      collected = chop c.collected f;
      held = front c.held (drop (13 * c.collected) f);
      taken = slice_index c.tally 0;
      discarded = five_in c.tally;
      cleared = slice_index c.tally 6;
      mark = c.mark;
    }

-- a push of s into the reader c, f answers a status and the bytes taken, and leaves c', f'
pub record Answered (f : List ℕ) (c : Counts) (s : List ℕ) (status took : ℕ) (c' : Counts) (f' : List ℕ) : Type 0 where
  pub by-rule : record { reader = view c' f'; status = status; took = took } ≡ answer (view c f) s
  -- the tally has its seven counts
  pub seven : length c'.tally ≡ 7
  -- "BadState returns the reader as given": unused places too
  pub as-given : bad (view c f) ≡ true → (c' ≡ c) × (f' ≡ f)
