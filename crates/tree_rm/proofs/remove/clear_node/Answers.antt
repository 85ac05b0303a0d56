use Rattle.tree_rm_rule.specs.Remove.{cleared}
use Rattle.words.proofs.Layouts.{none_fits, kid_up, slot_fits}
use borrow.Author.Rules.{rules}
use Rattle.tree_rm.proofs.remove.clear_node.Goals as goal

pub put_node-requires : goal.put_node-requires
unfolding cleared
put_node-requires c = (search rules, search none_fits, search none_fits, search (kid_up, none_fits, slot_fits, rules))

pub returns : goal.returns
unfolding cleared
returns c = c.put_node.ensures
