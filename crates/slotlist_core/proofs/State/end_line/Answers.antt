use Rattle.slotlist_core.proofs.Arms.{byte_end}
use Rattle.slotlist_core.proofs.State.end_line.Goals as goal

pub returns : goal.returns
returns c = search byte_end
