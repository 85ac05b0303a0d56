use Rattle.tree_rm.proofs.Removes.{from_is, from_changes}
use borrow.Author.Rules.{rules}
use Rattle.tree_rm.proofs.remove.remove_from.Goals as goal

pub returns : goal.returns
returns c = (search from_is, search from_changes)
