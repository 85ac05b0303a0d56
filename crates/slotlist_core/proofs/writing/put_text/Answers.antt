use native.Mathlib.Omega.{arith}
use Rattle.slotlist_core.specs.Writing.{puts}
use Rattle.lines.proofs.Folds.{fold_on, fold_end}
use Rattle.slotlist_core.proofs.writing.put_text.Goals as goal

pub loop-b-preserved : goal.loop-b-preserved
unfolding puts
loop-b-preserved c = (omega arith, search fold_on)

pub returns : goal.returns
unfolding puts
returns c = search fold_end
