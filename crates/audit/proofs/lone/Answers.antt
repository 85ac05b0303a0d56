use Rattle.audit.proofs.Laws.{lone_room, lone_is}
use Rattle.audit.proofs.lone.Goals as goal

pub combine-requires : goal.combine-requires
combine-requires c = search lone_room

pub returns : goal.returns
returns c = search lone_is
