use Rattle.std.proofs.Common.{ℕ, ◌+◌, ◌%◌, List, get_or, refl, sym, ◌∙◌}
use Rattle.reader.specs.View.{counted}
use Rattle.reader.proofs.Refusing.{sane, few-unmarked}
use Rattle.reader.proofs.Answer.{answered-bad, answered}
use Rattle.reader.proofs.pushing.push_into.Goals as goal

pub returns-then-is_bad : goal.returns-then-is_bad
returns-then-is_bad c =
    let a = c.args in
    rw c.into.ensures
    (answered-bad a.frames.now (counted a.c a.tally.now) a.chunk.now c.told-tally (sym c.is_bad.ensures ∙ c.if-is_bad.true))

pub advance-m-requires : goal.advance-m-requires
advance-m-requires c =
    let a = c.args in
    let h = sane (counted a.c a.tally.now) a.frames.now (sym c.is_bad.ensures ∙ c.if-is_bad.false) in
    (h.0, h.3, h.4)

pub passed-mark-requires : goal.passed-mark-requires
passed-mark-requires c =
    let a = c.args in
    λ m. rw c.all_of-before.ensures.0
    (few-unmarked (counted a.c a.tally.now) a.frames.now (sym c.is_bad.ensures ∙ c.if-is_bad.false) m)

pub invariant_of-asked : goal.invariant_of-asked
invariant_of-asked c =
    let a = c.args in
    let h = sane (counted a.c a.tally.now) a.frames.now (sym c.is_bad.ensures ∙ c.if-is_bad.false) in
    record { few = h.1 }

pub returns : goal.returns
returns c =
    let a = c.args in
    let u : List ℕ = c.advance-m.new.tally in
    rw c.add_count.ensures
    (answered a.frames.now (counted a.c a.tally.now) a.chunk.now c.advance-m.new.frames u c.advance-m.result c.passed-mark.result c.all_of-before.result
    ((get_or u 0 0 + c.advance-m.result.took) % 4294967296) c.status_of.result
    (sym c.is_bad.ensures ∙ c.if-is_bad.false) c.advance-m.ensures c.all_of-before.ensures.0 c.passed-mark.ensures
    c.all_of-before.ensures.1 refl c.status_of.ensures)
