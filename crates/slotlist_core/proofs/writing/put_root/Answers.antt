use Rattle.slotlist_core.proofs.Pages.{root_none, root_some}
use Rattle.slotlist_core.proofs.writing.put_root.Goals as goal

pub returns-then-root-eq-U : goal.returns-then-root-eq-U
returns-then-root-eq-U c = search root_none

pub returns-else-root-eq-U : goal.returns-else-root-eq-U
returns-else-root-eq-U c = search root_some
