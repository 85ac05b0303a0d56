use Rattle.stack.specs.Calls.{pop_rule}
use Rattle.stack.proofs.Laws.{not_empty, not_over, done_stack}
use Rattle.words.proofs.Tests.{picked, passed}
use Rattle.stack.proofs.ActionStack.pop.Goals as goal

pub shorten-requires : goal.shorten-requires
unfolding pop_rule
shorten-requires c = (search not_empty, search not_over)

pub returns : goal.returns
unfolding pop_rule
returns c = search (picked, done_stack)

pub returns-then-not-has_top : goal.returns-then-not-has_top
unfolding pop_rule
returns-then-not-has_top c = search passed
