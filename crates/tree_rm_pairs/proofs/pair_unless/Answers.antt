use borrow.Author.Rules.{rules}
use Rattle.tree_rm_pairs.proofs.pair_unless.Goals as goal

pub returns-then-skip : goal.returns-then-skip
returns-then-skip c = rw c.if-skip.true

pub returns-else-skip : goal.returns-else-skip
returns-else-skip c = rw c.if-skip.false c.pair_of.ensures
