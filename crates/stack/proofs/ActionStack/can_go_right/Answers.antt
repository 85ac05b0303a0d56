use Rattle.stack.specs.Calls.{test_rule}
use Rattle.stack.proofs.Laws.{not_empty, not_over, done_right}
use Rattle.words.proofs.Tests.{picked, passed}
use Rattle.stack.proofs.ActionStack.can_go_right.Goals as goal

pub top-requires : goal.top-requires
unfolding test_rule
top-requires c = (search not_empty, search not_over)

pub returns : goal.returns
unfolding test_rule
returns c = search (picked, done_right)

pub returns-then-not-has_top : goal.returns-then-not-has_top
unfolding test_rule
returns-then-not-has_top c = search passed
