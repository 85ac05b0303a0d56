use Rattle.tidy_rule.proofs.Marks.{not_long}
use Rattle.tidy_core.proofs.Planning.{test_begin, test_on, test_stops, test_ends}
use Rattle.tidy_core.proofs.plan.names_each.Goals as goal

pub returns-then-plan-count : goal.returns-then-plan-count
returns-then-plan-count c = search not_long

pub loop-slot-init : goal.loop-slot-init
loop-slot-init c = search test_begin

pub loop-slot-preserved : goal.loop-slot-preserved
loop-slot-preserved c = search test_on

pub returns-then-not-mark : goal.returns-then-not-mark
returns-then-not-mark c = search test_stops

pub returns : goal.returns
returns c = search test_ends
