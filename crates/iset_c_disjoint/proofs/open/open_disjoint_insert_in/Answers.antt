use Rattle.iset_c_disjoint.proofs.Laws.{placed_exit_lem}
use Rattle.iset_c_disjoint.proofs.open.open_disjoint_insert_in.Goals as goal

pub returns : goal.returns
returns c = search placed_exit_lem
