use Rattle.tree_rm_repair.proofs.Rounds.{four_is, four_changes}
use Rattle.tree_rm_repair.proofs.case_four.Goals as goal

pub returns : goal.returns
returns c = (search four_is, search four_changes)
