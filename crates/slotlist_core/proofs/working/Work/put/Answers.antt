use Rattle.slotlist_core.proofs.Pages.{text_of}
use Rattle.slotlist_core.specs.Writing.{puts}
use Rattle.slotlist_core.proofs.working.Work.put.Goals as goal

pub returns-in-Listing : goal.returns-in-Listing
unfolding puts
returns-in-Listing c = search text_of
