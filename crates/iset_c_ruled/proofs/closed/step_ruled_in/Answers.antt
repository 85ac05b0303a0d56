use Rattle.iset_c.specs.Replies.{step_exit}
use Rattle.iset_c.proofs.Laws.{bounded}
use Rattle.iset_c_ruled.proofs.closed.step_ruled_in.Goals as goal

pub returns : goal.returns
returns c = search (bounded step_exit)
