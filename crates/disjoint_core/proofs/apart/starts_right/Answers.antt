use Rattle.words.proofs.Laws.{slot_room}
use Rattle.disjoint_core.proofs.Laws.{right_there, right_gone}
use Rattle.disjoint_core.proofs.apart.starts_right.Goals as goal

pub returns-in_default : goal.returns-in_default
returns-in_default c = search right_gone

pub hull_start_of-requires : goal.hull_start_of-requires
hull_start_of-requires c = search slot_room

pub returns : goal.returns
returns c = search right_there
