use Rattle.tree_in.proofs.Inserts.{insert_at_is, insert_at_changes, repair_few, walk_few}
use native.Mathlib.Omega.{arith}
use Rattle.tree_in.proofs.insert_at.Goals as goal

pub overflow_add-result : goal.overflow_add-result
overflow_add-result c = omega (arith, repair_few _ _ _ _ _ _ c.insert_repair-repaired.ensures.1, walk_few _ _ _ _ c.fix_intervals_up-changed.ensures.0)

pub returns : goal.returns
returns c = (search insert_at_is, search insert_at_changes)
