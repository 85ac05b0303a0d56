use Rattle.tree_rm.proofs.Removes.{last_moves, none_moves}
use borrow.Author.Rules.{rules}
use Rattle.tree_rm.proofs.remove.swap_remove.Goals as goal

pub returns-then-ix-last : goal.returns-then-ix-last
returns-then-ix-last c = search none_moves

pub returns : goal.returns
returns c = search last_moves
