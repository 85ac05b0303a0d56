use Rattle.stack.specs.Calls.{push_rule}
use Rattle.stack.proofs.Laws.{done_stack}
use Rattle.words.proofs.Laws.{there, missing}
use Rattle.stack.proofs.ActionStack.push.Goals as goal

pub returns : goal.returns
unfolding push_rule
returns c = search (there, done_stack)

pub returns-then-self-ge32 : goal.returns-then-self-ge32
unfolding push_rule
returns-then-self-ge32 c = search missing
