use Rattle.stack.specs.States.{popped}
use Rattle.stack.proofs.ActionStack.shorten.Goals as goal

pub returns : goal.returns
unfolding popped
returns c = rw c.put_state.ensures
