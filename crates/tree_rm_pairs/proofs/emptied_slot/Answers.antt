use Rattle.tree_rm_rule.specs.Pairs.{emptied}
use Rattle.words.proofs.Laws.{linked, unlinked}
use borrow.Author.Rules.{rules}
use Rattle.tree_rm_pairs.proofs.emptied_slot.Goals as goal

pub returns-in_default : goal.returns-in_default
unfolding emptied
returns-in_default c = search unlinked

pub returns : goal.returns
unfolding emptied
returns c = search linked
