use Rattle.std.proofs.Common.{◌-◌, ◌≤◌, length}
use Rattle.rules.specs.Ledger.{run}
use Rattle.reader.specs.View.{config, chop}
use Rattle.reader.proofs.Turns.{Here}
use Rattle.reader.proofs.scan.scan.Given as goal

abbrev pub invariant-loop-at : goal.invariant-loop-at
invariant-loop-at l =
    Here (config l.command l.wanted l.strict) (run (config l.command l.wanted l.strict) (chop l.collected l.initial.frames) l.s) l.initial.tally l.s l.frames l.have l.at l.lost l.tally
    × (l.at ≤ length l.s)
    × (l.lost ≤ l.at)

abbrev pub decreases-loop-at : goal.decreases-loop-at
decreases-loop-at l = length l.s - l.at
