use Rattle.std.proofs.Common.{arith}
use Rattle.reader.proofs.Asking.{of_whole, fits, missing-bad, missing-complete, missing_open}
use Rattle.reader.proofs.queries.missing_of.Goals as goal

pub overflow_sub-result : goal.overflow_sub-result
overflow_sub-result c =
    let a = c.args in
    omega (arith, (fits a.c a.frames.now _ (of_whole a.c a.frames.now _ c.into.result c.into.ensures c.in-Ok.ensures)).0)

pub returns-then-c : goal.returns-then-c
returns-then-c c =
    let a = c.args in
    missing-complete a.c a.frames.now _ (of_whole a.c a.frames.now _ c.into.result c.into.ensures c.in-Ok.ensures) c.if-c.true

pub returns-else-c : goal.returns-else-c
returns-else-c c =
    let a = c.args in
    missing_open a.c a.frames.now _ (of_whole a.c a.frames.now _ c.into.result c.into.ensures c.in-Ok.ensures) c.if-c.false

pub returns-in-Err : goal.returns-in-Err
returns-in-Err c =
    let a = c.args in
    rw c.into-in-Err.ensures (missing-bad a.c a.frames.now c.in-Err.refusal (of_whole a.c a.frames.now _ c.into.result c.into.ensures c.in-Err.ensures))
