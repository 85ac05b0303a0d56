use Rattle.little.proofs.Laws.{read_eight}
use Rattle.little.proofs.u64_at.Goals as goal

pub returns : goal.returns
returns c = search read_eight
