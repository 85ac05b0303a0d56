use Rattle.tree_edit.specs.Links.{redirect}
use Rattle.words.proofs.Laws.{linked, slot_room, unlinked}
use borrow.Author.Rules.{rules}
use Rattle.tree_links.proofs.replace_child_at.Goals as goal

pub returns-in_default : goal.returns-in_default
unfolding redirect
returns-in_default c = search unlinked

pub replace_child-requires : goal.replace_child-requires
unfolding redirect
replace_child-requires c = (search slot_room, search rules)

pub returns : goal.returns
unfolding redirect
returns c = search linked
