use Rattle.slotlist_core.proofs.Pages.{then_byte}
use Rattle.slotlist_core.proofs.writing.put_next.Goals as goal

pub returns : goal.returns
returns c = search then_byte
