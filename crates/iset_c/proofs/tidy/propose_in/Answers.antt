use Rattle.iset_c.proofs.Laws.{number_told}
use Rattle.iset_c.proofs.tidy.propose_in.Goals as goal

pub returns : goal.returns
returns c = search number_told
