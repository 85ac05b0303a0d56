use native.Mathlib.Omega.{arith}
use Rattle.slotlist_core.specs.Feeding.{fed}
use Rattle.lines.proofs.Folds.{fold_on, fold_end}
use Rattle.slotlist_core.proofs.State.feed.Goals as goal

pub loop-b-preserved : goal.loop-b-preserved
unfolding fed
loop-b-preserved c = (omega arith, omega arith, omega arith, search fold_on)

pub returns : goal.returns
unfolding fed
returns c = search fold_end
