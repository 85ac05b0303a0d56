use Rattle.iset_c_disjoint.proofs.Laws.{placed_done, placed_answer}
use Rattle.iset_c_disjoint.proofs.answer.put_placed.Goals as goal

pub returns-in-Ok : goal.returns-in-Ok
returns-in-Ok c = (search placed_done, search placed_answer)
