use Rattle.slotlist_core.proofs.Arms.{room_fits}
use Rattle.slotlist_core.proofs.working.list_entry.Goals as goal

pub put_triple-requires : goal.put_triple-requires
put_triple-requires c = search room_fits
