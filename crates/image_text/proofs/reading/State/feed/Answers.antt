use native.Mathlib.Omega.{arith}
use Rattle.image_text.specs.Reading.{fed}
use Rattle.lines.proofs.Folds.{fold_on, fold_end}
use Rattle.image_text.proofs.reading.State.feed.Goals as goal

pub loop-b-preserved : goal.loop-b-preserved
unfolding fed
loop-b-preserved c = (omega arith, search fold_on)

pub returns : goal.returns
unfolding fed
returns c = search fold_end
