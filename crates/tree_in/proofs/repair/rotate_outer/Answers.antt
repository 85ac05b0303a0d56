use Rattle.tree_in.proofs.InsertRounds.{outer_is, outer_changes, rotated_fits}
use Rattle.tree_in.proofs.repair.rotate_outer.Goals as goal

pub overflow_add-result : goal.overflow_add-result
overflow_add-result c = search rotated_fits

pub returns : goal.returns
returns c = (search outer_is, search outer_changes)
