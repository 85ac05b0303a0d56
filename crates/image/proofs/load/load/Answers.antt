use native.Mathlib.Omega.{arith}
use Rattle.image.proofs.Layouts.{bodies}
use Rattle.image.proofs.Loads.{fit_counted, load_words, load_colours}
use Rattle.image.proofs.load.load.Goals as goal

pub unpack-requires : goal.unpack-requires
unpack-requires c = (omega arith, search bodies, search fit_counted)

pub paint-requires : goal.paint-requires
paint-requires c = (omega arith, search bodies)

pub returns : goal.returns
returns c = (search load_words, search load_colours)
