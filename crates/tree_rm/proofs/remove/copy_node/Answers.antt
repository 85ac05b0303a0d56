use Rattle.tree_rm.proofs.Removes.{copied_is}
use borrow.Author.Rules.{rules}
use Rattle.tree_rm.proofs.remove.copy_node.Goals as goal

pub returns : goal.returns
returns c = search copied_is
