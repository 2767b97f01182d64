use Rattle.reader.proofs.Asking.{of_whole, complete-bad, complete-is}
use Rattle.reader.proofs.queries.completed_of.Goals as goal

pub returns-in-Ok : goal.returns-in-Ok
returns-in-Ok c =
    let a = c.args in
    complete-is a.c a.frames.now _ (of_whole a.c a.frames.now _ c.into.result c.into.ensures c.in-Ok.ensures)

pub returns-in-Err : goal.returns-in-Err
returns-in-Err c =
    let a = c.args in
    rw c.into-in-Err.ensures (complete-bad a.c a.frames.now c.in-Err.refusal (of_whole a.c a.frames.now _ c.into.result c.into.ensures c.in-Err.ensures))
