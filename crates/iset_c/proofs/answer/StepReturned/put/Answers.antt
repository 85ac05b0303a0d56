use Rattle.iset_c.proofs.Laws.{hit_put, end_put}
use Rattle.iset_c.proofs.answer.StepReturned.put.Goals as goal

pub returns-in-Hit : goal.returns-in-Hit
returns-in-Hit c = search hit_put

pub returns-in-End : goal.returns-in-End
returns-in-End c = search end_put
