use Rattle.words.proofs.Laws.{slot_room}
use Rattle.iter.proofs.Laws.{child_there, child_gone}
use Rattle.fast.specs.Numbers.{goes_to}
use Rattle.fast.proofs.Bounds.{both_ends, near_there}
use Rattle.fast.proofs.WindowLookup.goes.Goals as goal

pub returns-in_default : goal.returns-in_default
unfolding goes_to
returns-in_default c = near_there _ _ _ _ _ _ _ (search child_gone)

pub hull_end_of-requires : goal.hull_end_of-requires
hull_end_of-requires c = search slot_room

pub hull_start_of-requires : goal.hull_start_of-requires
hull_start_of-requires c = search slot_room

pub returns : goal.returns
unfolding goes_to
returns c = near_there _ _ _ _ _ _ _ (search (child_there, both_ends))
