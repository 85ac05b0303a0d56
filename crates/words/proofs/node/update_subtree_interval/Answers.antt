use Rattle.words.proofs.Laws.{altered_is, fixed_is}
use Rattle.words.proofs.node.update_subtree_interval.Goals as goal

pub returns : goal.returns
returns c = (search altered_is, search fixed_is)
