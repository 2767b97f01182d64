use mathlib.Core.List.{◌++◌}
use Rattle.flags.specs.Faults.{run}
use Rattle.flags.proofs.Noting.{noted_tests}
use Rattle.flags.proofs.note_low.Goals as goal

pub returns : goal.returns
returns c =
    let s = c.args.frame.now in
    noted_tests s (run 4 0 0 8) (run 5 0 8 8 ++ run 6 1 17 1 ++ run 6 0 16 1 ++ run 6 2 18 6) c.note-n.ensures
    (noted_tests s (run 5 0 8 8) (run 6 1 17 1 ++ run 6 0 16 1 ++ run 6 2 18 6) c.note-n-2.ensures
    (noted_tests s (run 6 1 17 1) (run 6 0 16 1 ++ run 6 2 18 6) c.note-n-3.ensures
    (noted_tests s (run 6 0 16 1) (run 6 2 18 6) c.note-n-4.ensures c.note.ensures)))
