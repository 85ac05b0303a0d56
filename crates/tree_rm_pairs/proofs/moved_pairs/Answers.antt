use Rattle.tree_rm_pairs.proofs.Moved.{moved_is}
use borrow.Author.Rules.{rules}
use Rattle.tree_rm_pairs.proofs.moved_pairs.Goals as goal

pub returns : goal.returns
returns c = search moved_is
