use Rattle.tree_in.proofs.InsertRounds.{read_equal, read_unequal, equal_changes, unequal_changes}
use Rattle.tree_in.proofs.repair.round_rotated.Goals as goal

pub returns-then-child_of-index : goal.returns-then-child_of-index
returns-then-child_of-index c = (search read_equal, search equal_changes)

pub returns : goal.returns
returns c = (search read_unequal, search unequal_changes)
