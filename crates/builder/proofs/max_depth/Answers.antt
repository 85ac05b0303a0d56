use native.Mathlib.Omega.{arith}
use Rattle.builder.proofs.Levels.{levels_is}
use Rattle.builder.proofs.max_depth.Goals as goal

pub returns : goal.returns
returns c = (search levels_is, omega arith)
