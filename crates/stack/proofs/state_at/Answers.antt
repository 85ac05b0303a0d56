use Rattle.stack.proofs.Laws.{read}
use Rattle.stack.proofs.state_at.Goals as goal

pub returns : goal.returns
returns c = search read
