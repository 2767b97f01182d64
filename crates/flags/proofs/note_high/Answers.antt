use mathlib.Core.List.{◌++◌}
use Rattle.flags.specs.Faults.{run}
use Rattle.flags.proofs.Noting.{noted_tests}
use Rattle.flags.proofs.note_high.Goals as goal

pub returns : goal.returns
returns c =
    let s = c.args.frame.now in
    noted_tests s (run 7 0 24 4) (run 8 0 28 8 ++ run 9 0 36 8 ++ run 10 0 44 4) c.note-n.ensures
    (noted_tests s (run 8 0 28 8) (run 9 0 36 8 ++ run 10 0 44 4) c.note-n-2.ensures
    (noted_tests s (run 9 0 36 8) (run 10 0 44 4) c.note-n-3.ensures c.note.ensures))
