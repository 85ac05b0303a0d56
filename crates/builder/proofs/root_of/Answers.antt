use Rattle.words.proofs.Laws.{there, missing}
use Rattle.builder.proofs.root_of.Goals as goal

pub returns-then-start-end : goal.returns-then-start-end
returns-then-start-end c = search there

pub returns-else-start-end : goal.returns-else-start-end
returns-else-start-end c = search missing
