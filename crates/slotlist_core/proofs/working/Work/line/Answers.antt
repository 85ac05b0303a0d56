use Rattle.slotlist_core.proofs.Arms.{line_entry, line_remove, line_other}
use Rattle.slotlist_core.proofs.working.Work.line.Goals as goal

pub returns-in-Entry : goal.returns-in-Entry
returns-in-Entry c = search line_entry

pub returns-in-Remove : goal.returns-in-Remove
returns-in-Remove c = search line_remove

pub returns-in-Other : goal.returns-in-Other
returns-in-Other c = search line_other
