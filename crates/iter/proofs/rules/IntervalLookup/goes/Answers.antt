use Rattle.iter.specs.Exact.{should_go_exact}
use Rattle.iter.proofs.Laws.{behind_live}
use Rattle.iter.proofs.rules.IntervalLookup.goes.Goals as goal

pub returns-then-left_side : goal.returns-then-left_side
unfolding should_go_exact
returns-then-left_side c = let e = c.should_go_left_exact.ensures in (rw c.if-left_side.true e, rw c.if-left_side.true (behind_live _ _ _ _ e))

pub returns-else-left_side : goal.returns-else-left_side
unfolding should_go_exact
returns-else-left_side c = let e = c.should_go_right_exact.ensures in (rw c.if-left_side.false e, rw c.if-left_side.false (behind_live _ _ _ _ e))
