use Rattle.tree_rm.proofs.Removes.{child_is}
use borrow.Author.Rules.{rules}
use Rattle.tree_rm.proofs.remove.least_child.Goals as goal

pub returns : goal.returns
returns c = search child_is
