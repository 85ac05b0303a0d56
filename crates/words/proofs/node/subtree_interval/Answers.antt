use Rattle.words.specs.Nodes.{hull_of}
use Rattle.words.proofs.node.subtree_interval.Goals as goal

pub returns : goal.returns
unfolding hull_of
returns c = rw (c.extend_by.ensures, c.child_of-2.ensures.0, c.extend_by-left.ensures, c.child_of.ensures.0, c.interval_of-own.ensures)
