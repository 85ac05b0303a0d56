use Rattle.iset_c_open.specs.Replies.{open_step_exit}
use Rattle.iset_c.proofs.Laws.{bounded}
use Rattle.iset_c_open.proofs.lookup.open_step_in.Goals as goal

pub returns : goal.returns
returns c = search (bounded open_step_exit)
