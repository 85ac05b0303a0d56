use Rattle.slotlist_core.proofs.Arms.{byte_more}
use Rattle.slotlist_core.proofs.State.byte.Goals as goal

pub returns-else-b-eq-LINE_END : goal.returns-else-b-eq-LINE_END
returns-else-b-eq-LINE_END c = search byte_more
