use Rattle.disjoint_core.proofs.Laws.{reached_root, reached_spent, reached_out, reached_here, reached_on}
use Rattle.disjoint_core.proofs.point.point_below.Goals as goal

pub loop-entered-init : goal.loop-entered-init
loop-entered-init c = search reached_root

pub returns-then-count-at : goal.returns-then-count-at
returns-then-count-at c = search reached_out

pub returns-then-left-below_end : goal.returns-then-left-below_end
returns-then-left-below_end c = search reached_here

pub loop-entered-preserved : goal.loop-entered-preserved
loop-entered-preserved c = search reached_on

pub returns : goal.returns
returns c = search reached_spent
