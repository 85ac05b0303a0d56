use Rattle.plan_text.proofs.Arms.{last_new, last_line}
use Rattle.plan_text.proofs.reading.State.end_last.Goals as goal

pub returns-then-not-is_new : goal.returns-then-not-is_new
returns-then-not-is_new c = search last_line

pub returns-else-not-is_new : goal.returns-else-not-is_new
returns-else-not-is_new c = search last_new
