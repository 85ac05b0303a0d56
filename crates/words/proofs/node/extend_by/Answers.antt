use Rattle.words.specs.Nodes.{joined}
use Rattle.words.proofs.Laws.{linked, unlinked, extended_by}
use Rattle.words.proofs.node.extend_by.Goals as goal

pub returns-in_default : goal.returns-in_default
unfolding joined
returns-in_default c = search unlinked

pub returns : goal.returns
unfolding joined
returns c = search (linked, extended_by)
