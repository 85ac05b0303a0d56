use Rattle.tree_rm.proofs.Removes.{remove_is, remove_changes}
use borrow.Author.Rules.{rules}
use Rattle.tree_rm.proofs.remove.remove_at.Goals as goal

pub returns : goal.returns
returns c = (search remove_is, search remove_changes)
