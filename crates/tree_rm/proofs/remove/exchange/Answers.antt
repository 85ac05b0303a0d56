use Rattle.tree_rm_rule.specs.Remove.{exchanged}
use Rattle.words.proofs.Tests.{equal, unequal}
use borrow.Author.Rules.{rules}
use Rattle.tree_rm.proofs.remove.exchange.Goals as goal

pub returns-then-rm-ix : goal.returns-then-rm-ix
unfolding exchanged
returns-then-rm-ix c = search unequal

pub returns-else-rm-ix : goal.returns-else-rm-ix
unfolding exchanged
returns-else-rm-ix c = search equal
