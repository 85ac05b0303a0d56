use Rattle.stack.proofs.Laws.{level_weight_lem}
use Rattle.stack.proofs.level_weight.Goals as goal

pub returns : goal.returns
returns c = search level_weight_lem
