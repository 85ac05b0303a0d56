use native.Mathlib.Omega.{arith}
use Rattle.words.proofs.Laws.{slot_live}
use Rattle.fast.proofs.Begins.{exact_none, exact_done}
use Rattle.fast.proofs.find_exact.Goals as goal

pub returns-in_default : goal.returns-in_default
returns-in_default c = search exact_none

pub find_down-requires : goal.find_down-requires
find_down-requires c = (omega arith, search slot_live, (omega arith, omega arith))

pub returns : goal.returns
returns c = search exact_done
