use Rattle.tree_rm_rule.specs.Pairs.{named}
use Rattle.words.proofs.Tests.{equal, unequal}
use Rattle.tree_rm_pairs.proofs.pair_of.Goals as goal

pub returns-then-old-new : goal.returns-then-old-new
unfolding named
returns-then-old-new c = search equal

pub returns-else-old-new : goal.returns-else-old-new
unfolding named
returns-else-old-new c = search unequal
