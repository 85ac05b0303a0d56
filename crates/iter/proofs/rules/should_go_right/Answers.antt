use Rattle.iter.proofs.Laws.{child_there, child_gone, admits_at}
use Rattle.words.proofs.Laws.{slot_room}
use Rattle.iter.proofs.rules.should_go_right.Goals as goal

pub returns-in_default : goal.returns-in_default
returns-in_default c = search child_gone

pub hull_start_of-requires : goal.hull_start_of-requires
hull_start_of-requires c = search slot_room

pub returns : goal.returns
returns c = search (child_there, admits_at)
