use Rattle.tree_rm_repair.proofs.Rounds.{case_is}
use Rattle.tree_rm_repair.proofs.case_at.Goals as goal

pub returns : goal.returns
returns c = search case_is
