use Rattle.audit.proofs.node_at.Goals as goal

pub returns : goal.returns
returns c = rw (← c.interval_of.ensures, ← c.hull_at.ensures, ← c.child_of.ensures.0, ← c.child_of-2.ensures.0, ← c.parent_of.ensures.0, ← c.is_red.ensures)
