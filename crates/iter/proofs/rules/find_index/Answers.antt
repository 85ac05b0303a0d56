use Rattle.iter.proofs.Laws.{find_none, find_out, find_here, find_on}
use Rattle.words.proofs.Orders.{eq_by, le_by}
use borrow.Author.Rules.{rules}
use Rattle.iter.proofs.rules.find_index.Goals as goal

pub returns-then-count-at : goal.returns-then-count-at
returns-then-count-at c = search (rules, find_out)

pub returns-then-eq : goal.returns-then-eq
returns-then-eq c = search (rules, find_here, eq_by)

pub loop-preserved : goal.loop-preserved
loop-preserved c = search (rules, find_on, eq_by, le_by)

pub returns : goal.returns
returns c = search (rules, find_none)
