use Rattle.tree_rm_rule.specs.Pairs.{upper}
use Rattle.words.proofs.Tests.{less, not_less}
use Rattle.tree_rm_pairs.proofs.upper_of.Goals as goal

pub returns-then-q-p : goal.returns-then-q-p
unfolding upper
returns-then-q-p c = search less

pub returns-else-q-p : goal.returns-else-q-p
unfolding upper
returns-else-q-p c = search not_less
