use Rattle.iset_c.proofs.Laws.{fresh_told}
use Rattle.iset_c.proofs.lookup.iset_fresh.Goals as goal

pub returns : goal.returns
returns c = search fresh_told
