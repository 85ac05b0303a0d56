use Rattle.slotlist_core.proofs.Arms.{last_new, last_line}
use Rattle.slotlist_core.proofs.State.end_last.Goals as goal

pub returns-then-is_new : goal.returns-then-is_new
returns-then-is_new c = search last_new

pub returns-else-is_new : goal.returns-else-is_new
returns-else-is_new c = search last_line
