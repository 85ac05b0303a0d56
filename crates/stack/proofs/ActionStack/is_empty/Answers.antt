use Rattle.stack.specs.Calls.{is_empty_rule}
use Rattle.words.proofs.Laws.{there, missing}
use Rattle.stack.proofs.ActionStack.is_empty.Goals as goal

pub returns : goal.returns
unfolding is_empty_rule
returns c = search missing

pub returns-then-self-gt32 : goal.returns-then-self-gt32
unfolding is_empty_rule
returns-then-self-gt32 c = search there
