use Rattle.iter.proofs.Laws.{child_there, child_gone, both_left}
use Rattle.words.proofs.Laws.{slot_room}
use Rattle.words.proofs.Orders.{le_by}
use Rattle.iter.specs.Exact.{should_go_exact, toward}
use Rattle.iter.proofs.rules.should_go_left_exact.Goals as goal

pub returns-in_default : goal.returns-in_default
unfolding should_go_exact toward
returns-in_default c = search child_gone

pub hull_at-requires : goal.hull_at-requires
unfolding should_go_exact toward
hull_at-requires c = search slot_room

pub returns : goal.returns
unfolding should_go_exact toward
returns c = search (child_there, both_left, le_by)
