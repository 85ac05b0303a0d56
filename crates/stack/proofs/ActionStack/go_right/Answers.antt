use Rattle.stack.specs.Calls.{mark_rule}
use Rattle.stack.proofs.Laws.{not_empty, not_over, done_stack}
use Rattle.words.proofs.Tests.{picked, passed}
use borrow.Author.Rules.{rules}
use Rattle.stack.proofs.ActionStack.go_right.Goals as goal

pub mark-requires : goal.mark-requires
unfolding mark_rule
mark-requires c = (search not_empty, search not_over, search rules)

pub returns : goal.returns
unfolding mark_rule
returns c = search (picked, done_stack)

pub returns-then-not-has_top : goal.returns-then-not-has_top
unfolding mark_rule
returns-then-not-has_top c = search passed
