use Rattle.tree_edit.specs.Links.{remove_child_lem}
use Rattle.words.proofs.Layouts.{none_fits}
use borrow.Author.Rules.{rules}
use Rattle.tree_links.proofs.remove_child.Goals as goal

pub replace_child-requires : goal.replace_child-requires
unfolding remove_child_lem
replace_child-requires c = (search rules, search none_fits)

pub returns : goal.returns
unfolding remove_child_lem
returns c = c.replace_child.ensures
