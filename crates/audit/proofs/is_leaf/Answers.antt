use Rattle.audit.proofs.Laws.{leaf_is, leaf_not}
use Rattle.audit.proofs.is_leaf.Goals as goal

pub returns-then-link-count : goal.returns-then-link-count
returns-then-link-count c = search leaf_is

pub returns-else-link-count : goal.returns-else-link-count
returns-else-link-count c = search leaf_not
