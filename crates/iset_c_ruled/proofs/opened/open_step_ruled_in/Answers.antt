use Rattle.iset_c_open.specs.Replies.{open_step_exit}
use Rattle.iset_c.proofs.Laws.{bounded}
use Rattle.iset_c_ruled.proofs.opened.open_step_ruled_in.Goals as goal

pub returns : goal.returns
returns c = search (bounded open_step_exit)
