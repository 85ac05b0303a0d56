use Rattle.words.proofs.Laws.{slot_room}
use Rattle.disjoint_core.proofs.Laws.{left_there, left_gone}
use Rattle.disjoint_core.proofs.apart.ends_left.Goals as goal

pub returns-in_default : goal.returns-in_default
returns-in_default c = search left_gone

pub hull_end_of-requires : goal.hull_end_of-requires
hull_end_of-requires c = search slot_room

pub returns : goal.returns
returns c = search left_there
