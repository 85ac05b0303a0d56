use Rattle.iter.proofs.Laws.{on_left, on_right, behind_live}
use Rattle.iter.proofs.rules.LimitsLookup.goes.Goals as goal

pub returns-then-left_side : goal.returns-then-left_side
returns-then-left_side c = (search on_left, rw c.if-left_side.true (behind_live _ _ _ _ c.should_go_left.ensures))

pub returns-else-left_side : goal.returns-else-left_side
returns-else-left_side c = (search on_right, rw c.if-left_side.false (behind_live _ _ _ _ c.should_go_right.ensures))
