use Rattle.image.proofs.Loads.{unpack_none, unpack_on, unpack_end}
use Rattle.image.proofs.load.unpack.Goals as goal

pub loop-s-init : goal.loop-s-init
loop-s-init c = search unpack_none

pub loop-s-preserved : goal.loop-s-preserved
loop-s-preserved c = search unpack_on

pub returns : goal.returns
returns c = search unpack_end
