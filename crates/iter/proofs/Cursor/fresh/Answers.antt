use Rattle.iter.proofs.Cursor.fresh.Goals as goal

pub returns : goal.returns
returns c = rw c.new-stack.ensures
