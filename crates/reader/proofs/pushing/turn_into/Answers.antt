use Rattle.reader.specs.View.{counted}
use Rattle.reader.proofs.Turning.{holds_few, missing-told}
use Rattle.reader.proofs.pushing.turn_into.Goals as goal

pub missing_after-requires : goal.missing_after-requires
missing_after-requires c =
    let a = c.args in
    let r = c.push_into-w.result in holds_few a.frames.now (counted a.c a.tally.now) a.chunk.now r.said.status r.said.took (counted r.standing c.push_into-w.new.tally) c.push_into-w.new.frames c.push_into-w.ensures

pub returns : goal.returns
returns c =
    let a = c.args in
    let r = c.push_into-w.result in
    let m = c.missing_after.ensures in
    record {
      answered = c.push_into-w.ensures;
      missing =
          missing-told a.frames.now (counted a.c a.tally.now) a.chunk.now r.said.status r.said.took (counted r.standing c.push_into-w.new.tally) c.push_into-w.new.frames c.push_into-w.ensures
          c.missing_after.result m.0 m.1 m.2;
    }
