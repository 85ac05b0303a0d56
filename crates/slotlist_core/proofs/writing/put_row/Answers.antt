use Rattle.slotlist_core.proofs.Pages.{row_is}
use Rattle.slotlist_core.proofs.writing.put_row.Goals as goal

pub returns : goal.returns
returns c = search row_is
