use Rattle.iset_c.specs.Replies.{step_exit}
use Rattle.iset_c.proofs.Laws.{bounded}
use Rattle.iset_c.proofs.lookup.step_in.Goals as goal

pub returns : goal.returns
returns c = search (bounded step_exit)
