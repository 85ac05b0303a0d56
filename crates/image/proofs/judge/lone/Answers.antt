use Rattle.audit.proofs.Laws.{lone_room}
use Rattle.image.proofs.Judges.{lone_is}
use Rattle.image.proofs.judge.lone.Goals as goal

pub join-requires : goal.join-requires
join-requires c = search lone_room

pub returns : goal.returns
returns c = search lone_is
