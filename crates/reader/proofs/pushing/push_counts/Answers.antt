use Rattle.reader.proofs.pushing.push_counts.Goals as goal

pub returns : goal.returns
returns c = rw (c.counted.ensures) (rw c.into.ensures at c.push_into-w.ensures)
