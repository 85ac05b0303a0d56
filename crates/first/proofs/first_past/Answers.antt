use Rattle.first.proofs.Laws.{past_spent, past_out, past_left, past_here, past_right}
use borrow.Author.Rules.{rules}
use Rattle.first.proofs.first_past.Goals as goal

pub returns-then-count-at : goal.returns-then-count-at
returns-then-count-at c = search (rules, past_out)

pub loop-preserved-then-is_past : goal.loop-preserved-then-is_past
loop-preserved-then-is_past c = search (rules, past_left)

pub returns-then-passed_by : goal.returns-then-passed_by
returns-then-passed_by c = search (rules, past_here)

pub loop-preserved : goal.loop-preserved
loop-preserved c = search (rules, past_right)

pub returns : goal.returns
returns c = search (rules, past_spent)
