use Rattle.disjoint_core.proofs.Laws.{apart_is}
use Rattle.disjoint_core.proofs.apart.is_apart.Goals as goal

pub returns : goal.returns
returns c = search apart_is
