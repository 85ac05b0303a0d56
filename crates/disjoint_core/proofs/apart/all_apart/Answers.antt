use borrow.Author.Rules.{rules}
use Rattle.disjoint_core.proofs.Laws.{below_end, below_not, below_on}
use Rattle.disjoint_core.proofs.apart.all_apart.Goals as goal

pub loop-slot-preserved : goal.loop-slot-preserved
loop-slot-preserved c = search (rules, below_on)

pub returns-then-not-is_apart : goal.returns-then-not-is_apart
returns-then-not-is_apart c = search (rules, below_not)

pub returns : goal.returns
returns c = search (rules, below_end)
