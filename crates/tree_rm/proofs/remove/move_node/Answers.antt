use Rattle.tree_rm.proofs.Removes.{relinked_is}
use Rattle.words.proofs.Layouts.{live_kid}
use native.Mathlib.Omega.{arith}
use borrow.Author.Rules.{rules}
use Rattle.tree_rm.proofs.remove.move_node.Goals as goal

pub replace_child_at-requires : goal.replace_child_at-requires
replace_child_at-requires c = (omega arith, search live_kid)

pub returns : goal.returns
returns c = search relinked_is
