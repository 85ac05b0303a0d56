use Rattle.plan_text.proofs.Arms.{free_found, free_on, free_none}
use Rattle.plan_text.proofs.reading.first_free.Goals as goal

pub returns-then-plan-i-eq-FREE : goal.returns-then-plan-i-eq-FREE
returns-then-plan-i-eq-FREE c = search free_found

pub loop-i-preserved : goal.loop-i-preserved
loop-i-preserved c = search free_on

pub returns : goal.returns
returns c = search free_none
