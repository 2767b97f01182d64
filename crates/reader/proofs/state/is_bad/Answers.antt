use Rattle.std.proofs.Common.{sym, ◌∙◌, arith}
use Rattle.reader.proofs.Refusing.{recounted, any_many, too_full, too_far, empty, past, not-begun, begun}
use Rattle.reader.specs.View.{counted}
use Rattle.reader.proofs.state.is_bad.Goals as goal

pub returns-then-c-gt85 : goal.returns-then-c-gt85
returns-then-c-gt85 c =
    let a = c.args in any_many (counted a.c a.tally.now) a.frames.now c.if-c-gt85.true

pub returns-then-c : goal.returns-then-c
returns-then-c c =
    let a = c.args in too_far (counted a.c a.tally.now) a.frames.now (omega (arith, c.if-c-eq0.true)) c.if-c-gt85.false c.if-c.true

pub returns-then-c-eq0 : goal.returns-then-c-eq0
returns-then-c-eq0 c =
    let a = c.args in
    c.unmarked.ensures
    ∙ recounted a.c.mark c.all_of-before.ensures.0
    ∙ sym (empty (counted a.c a.tally.now) a.frames.now (omega (arith, c.if-c-eq0.true)) c.if-c-gt85.false c.if-c.false c.if-c-eq0.true)

pub returns-then-c-gt12 : goal.returns-then-c-gt12
returns-then-c-gt12 c =
    let a = c.args in too_full (counted a.c a.tally.now) a.frames.now c.if-c-gt12.true

pub returns-then-c-2 : goal.returns-then-c-2
returns-then-c-2 c =
    let a = c.args in past (counted a.c a.tally.now) a.frames.now c.if-c-gt12.false c.if-c-gt85.false c.if-c-eq0.false c.if-c-2.true

pub returns-then-frames-c : goal.returns-then-frames-c
returns-then-frames-c c =
    let a = c.args in
    not-begun (counted a.c a.tally.now) a.frames.now c.if-c-gt12.false c.if-c-gt85.false (omega (arith, c.if-c-2.false)) c.if-c-eq0.false c.if-c-2.false c.if-frames-c.true

pub returns : goal.returns
returns c =
    let a = c.args in
    c.unmarked-2.ensures
    ∙ recounted a.c.mark c.all_of-before.ensures.0
    ∙ sym
    (begun (counted a.c a.tally.now) a.frames.now c.if-c-gt12.false c.if-c-gt85.false (omega (arith, c.if-c-2.false)) c.if-c-eq0.false c.if-c-2.false c.if-frames-c.false)
