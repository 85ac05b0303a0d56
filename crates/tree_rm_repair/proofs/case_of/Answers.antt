use Rattle.tree_rm_repair.proofs.Rounds.{choose_black}
use Rattle.tree_rm_repair.proofs.case_of.Goals as goal

pub returns-then-sibling : goal.returns-then-sibling
returns-then-sibling c = rw (choose_black, c.if-parent-close.true, c.if-sibling.true)

pub returns-else-sibling : goal.returns-else-sibling
returns-else-sibling c = rw (choose_black, c.if-parent-close.true, c.if-sibling.false)

pub returns-then-parent-sibling : goal.returns-then-parent-sibling
returns-then-parent-sibling c = rw (choose_black, c.if-parent-close.false, c.if-parent-sibling.true)

pub returns-then-sibling-distant : goal.returns-then-sibling-distant
returns-then-sibling-distant c = rw (choose_black, c.if-parent-close.false, c.if-parent-sibling.false, c.if-sibling-distant.true)

pub returns-else-sibling-distant : goal.returns-else-sibling-distant
returns-else-sibling-distant c = rw (choose_black, c.if-parent-close.false, c.if-parent-sibling.false, c.if-sibling-distant.false)
