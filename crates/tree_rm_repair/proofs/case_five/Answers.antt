use mathlib.Core.Path.{refl}
use Rattle.tree_rm_repair.proofs.Rounds.{five_is}
use Rattle.tree_rm_repair.proofs.case_five.Goals as goal

pub returns : goal.returns
returns c = (search five_is, refl)
