use Rattle.tree_in.proofs.Inserts.{down_ends, down_none, down_on}
use Rattle.words.proofs.Laws.{slot_live}
use mathlib.Core.Path.{refl}
use native.Mathlib.Omega.{arith}
use Rattle.tree_in.proofs.descent.last_down.Goals as goal

pub loop-init : goal.loop-init
loop-init c = record { rest = refl; slot = omega arith }

pub returns-in_default : goal.returns-in_default
returns-in_default c = (search down_ends, omega arith)

pub loop-preserved : goal.loop-preserved
loop-preserved c = record { rest = search down_on; slot = search slot_live }

pub returns : goal.returns
returns c = (search down_none, omega arith)
