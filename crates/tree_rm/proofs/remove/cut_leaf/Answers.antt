use Rattle.tree_rm_rule.specs.Reach.{cut_hulls}
use Rattle.tree_links.proofs.LinkLaws.{hulls_unlinked, read_linked, read_unlinked}
use Rattle.tree_rm.proofs.Removes.{cut_is, cut_changes}
use Rattle.tree_rm_rule.specs.Remove.{cut_root, cut_words_with}
use Rattle.words.proofs.Laws.{slot_room}
use borrow.Author.Rules.{rules}
use mathlib.Core.Path.{refl}
use Rattle.tree_rm.proofs.remove.cut_leaf.Goals as goal

pub returns-in_default : goal.returns-in_default
unfolding cut_root cut_words_with cut_hulls
returns-in_default c = (refl, search read_unlinked, search read_unlinked, search hulls_unlinked)

pub remove_child-requires : goal.remove_child-requires
unfolding cut_root cut_words_with cut_hulls
remove_child-requires c = search slot_room

pub returns : goal.returns
unfolding cut_root cut_words_with cut_hulls
returns c = (refl, search read_linked, search cut_is, search cut_changes)
