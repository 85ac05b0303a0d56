use Rattle.stack.specs.States.{marked}
use Rattle.stack.proofs.ActionStack.mark.Goals as goal

pub returns : goal.returns
unfolding marked
returns c = rw c.put_state.ensures
