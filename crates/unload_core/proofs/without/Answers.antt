use Rattle.unload_core.proofs.Laws.{root_is}
use Rattle.unload_core.proofs.without.Goals as goal

pub returns : goal.returns
returns c = search root_is
