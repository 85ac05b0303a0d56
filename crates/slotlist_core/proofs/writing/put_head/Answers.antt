use Rattle.slotlist_core.proofs.Pages.{in_five}
use Rattle.slotlist_core.specs.Text.{head}
use Rattle.slotlist_core.proofs.writing.put_head.Goals as goal

pub returns : goal.returns
unfolding head
returns c = search in_five
