use Rattle.words.proofs.Laws.{slot_room}
use Rattle.first.proofs.Laws.{past_there, past_gone}
use Rattle.first.proofs.is_past.Goals as goal

pub returns-in_default : goal.returns-in_default
returns-in_default c = search past_gone

pub hull_end_of-requires : goal.hull_end_of-requires
hull_end_of-requires c = search slot_room

pub returns : goal.returns
returns c = search past_there
