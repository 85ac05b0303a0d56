use Rattle.stack.specs.States.{pushed}
use Rattle.stack.proofs.ActionStack.deepen.Goals as goal

pub returns : goal.returns
unfolding pushed
returns c = rw c.put_state.ensures
