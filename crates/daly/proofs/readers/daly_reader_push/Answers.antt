use Rattle.std.proofs.Common.{◌≡◌, ℕ, List}
use Rattle.reader.specs.View.{counted}
use Rattle.reader.specs.Lent.{TurnedInto}
use Rattle.reader.specs.declared.Counts.{Counts}
use Rattle.reader.specs.declared.Standing.{Standing}
use Rattle.reader.specs.declared.pushing.Turn.{Turn}
use Rattle.reader.proofs.Turning.{asked_stays}
use Rattle.daly.proofs.readers.daly_reader_push.Goals as goal

-- the reader's numbers with those stored that a push changes
abbrev next : Counts → Standing → List ℕ → Counts
next m n t = record { command = m.command; mark = n.mark; strict = m.strict; tally = t; wanted = m.wanted; collected = n.collected; held = n.held }

-- they are the numbers with the answered standing: this push alone stores a part of them, so that no other answer needs it
next_same : (f : List ℕ) (m : Counts) (s : List ℕ) (x : Turn) (n : Standing) (t f' : List ℕ) → TurnedInto f m s x (counted n t) f' → next m n t ≡ counted n t
next_same f m s x n t f' e =
    let k = asked_stays f m s x.status x.took (counted n t) f' e.answered in
    λ i. record { command = k.0 i; mark = n.mark; strict = k.1 i; tally = t; wanted = k.2 i; collected = n.collected; held = n.held }

pub returns : goal.returns
returns c =
    let t = c.turn_into-t in
    let r = c.args.reader.now in
    rw (next_same r.frames r.counts c.args.chunk.now t.result.turn t.result.standing t.new.tally t.new.frames t.ensures) t.ensures
