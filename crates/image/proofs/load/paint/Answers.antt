use Rattle.image.proofs.Loads.{paint_none, paint_on, paint_end}
use Rattle.image.proofs.load.paint.Goals as goal

pub loop-s-init : goal.loop-s-init
loop-s-init c = search paint_none

pub loop-s-preserved : goal.loop-s-preserved
loop-s-preserved c = search paint_on

pub returns : goal.returns
returns c = search paint_end
