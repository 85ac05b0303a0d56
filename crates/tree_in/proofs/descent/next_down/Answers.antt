use Rattle.tree_in.proofs.descent.next_down.Goals as goal

pub returns : goal.returns
returns c = rw (c.child_of.ensures.0, c.goes_left.ensures)
