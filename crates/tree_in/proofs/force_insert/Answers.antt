use Rattle.tree_in.proofs.Inserts.{insert_is, insert_changes}
use Rattle.tree_in.proofs.force_insert.Goals as goal

pub returns : goal.returns
returns c = (search insert_is, search insert_changes)
