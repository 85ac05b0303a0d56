use Rattle.stack.specs.Calls.{some}
use borrow.Author.Rules.{rules}
use Rattle.stack.proofs.ActionStack.has_top.Goals as goal

pub returns : goal.returns
unfolding some
returns c = search rules
