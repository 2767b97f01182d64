use Rattle.flags.specs.Faults.{faults}
use Rattle.flags.specs.Noted.{low_tests, high_tests}
use Rattle.flags.proofs.Noting.{noted_tests}
use Rattle.flags.proofs.note_faults.Goals as goal

pub returns : goal.returns
unfolding faults
returns c =
    noted_tests c.args.frame.now low_tests high_tests c.note_low-n.ensures c.note_high.ensures
