use Rattle.tree_edit.specs.Links.{adopt}
use Rattle.words.proofs.Laws.{linked, slot_room, unlinked}
use Rattle.words.proofs.Layouts.{live_up}
use Rattle.tree_links.proofs.adopt_child.Goals as goal

pub returns-in_default : goal.returns-in_default
unfolding adopt
returns-in_default c = search unlinked

pub put_parent-requires : goal.put_parent-requires
unfolding adopt
put_parent-requires c = (search slot_room, search live_up)

pub returns : goal.returns
unfolding adopt
returns c = search linked
