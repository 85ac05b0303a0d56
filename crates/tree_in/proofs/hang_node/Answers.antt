use Rattle.tree_in.proofs.Inserts.{hung_words_lem, room_above, room_then, next_kid}
use Rattle.tree_in_rule.specs.Insert.{hung_root, hung_words}
use Rattle.words.proofs.Laws.{linked, unlinked}
use Rattle.tree_in.proofs.hang_node.Goals as goal

pub returns-in_default : goal.returns-in_default
unfolding hung_root hung_words
returns-in_default c = (search unlinked, search unlinked)

pub goes_left-left_child-requires : goal.goes_left-left_child-requires
unfolding hung_root hung_words
goes_left-left_child-requires c = search room_above

pub put_child-requires : goal.put_child-requires
unfolding hung_root hung_words
put_child-requires c = (search room_then, search next_kid)

pub returns : goal.returns
unfolding hung_root hung_words
returns c = (search linked, search hung_words_lem)
