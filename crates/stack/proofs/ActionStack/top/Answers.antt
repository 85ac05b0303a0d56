use Rattle.stack.specs.States.{top}
use Rattle.stack.proofs.ActionStack.top.Goals as goal

pub returns : goal.returns
unfolding top
returns c = c.state_at.ensures
