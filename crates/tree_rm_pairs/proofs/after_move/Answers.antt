use Rattle.tree_rm_rule.specs.Pairs.{moved_to}
use Rattle.words.proofs.Tests.{equal, unequal}
use Rattle.tree_rm_pairs.proofs.after_move.Goals as goal

pub returns-then-slot-from : goal.returns-then-slot-from
unfolding moved_to
returns-then-slot-from c = search equal

pub returns-else-slot-from : goal.returns-else-slot-from
unfolding moved_to
returns-else-slot-from c = search unequal
