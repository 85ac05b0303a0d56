use Rattle.tree_rm.proofs.Removes.{finish_is, sum_is, cut_fits}
use borrow.Author.Rules.{rules}
use Rattle.tree_rm.proofs.remove.finish_rm.Goals as goal

pub overflow_add-result : goal.overflow_add-result
overflow_add-result c = search cut_fits

pub returns : goal.returns
returns c = (search finish_is, search sum_is)
