use Rattle.tree_rm.proofs.Removes.{child_root, child_words, leaf_root, leaf_words, leaf_changes, child_changes}
use Rattle.tree_rm_rule.specs.Pairs.{emptied}
use Rattle.words.proofs.Laws.{linked, slot_live, slot_room, unlinked}
use borrow.Author.Rules.{rules}
use native.Mathlib.Omega.{arith}
use Rattle.tree_rm.proofs.remove.cut_off.Goals as goal

pub returns-in_default : goal.returns-in_default
unfolding emptied
returns-in_default c = (search unlinked, omega arith, search leaf_root, search leaf_words, search leaf_changes)

pub swap_nodes-requires : goal.swap_nodes-requires
unfolding emptied
swap_nodes-requires c = (omega arith, search slot_room)

pub returns : goal.returns
unfolding emptied
returns c = (search linked, search slot_live, search child_root, search child_words, search child_changes)
