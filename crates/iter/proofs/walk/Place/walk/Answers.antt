use Rattle.iter.proofs.Laws.{same_as}
use Rattle.iter.proofs.Moves.{deeper_room, move_entered, move_left, move_returned, move_right}
use native.Mathlib.Omega.{arith}
use borrow.Author.Rules.{rules}
use Rattle.iter.proofs.walk.Place.walk.Goals as goal

pub left_or_mark-requires : goal.left_or_mark-requires
left_or_mark-requires g c = (omega arith, search rules, search same_as, deeper_room _ _ _ _ c.goes_down-goes.ensures)

pub returns-then-self-eq-ENTERED : goal.returns-then-self-eq-ENTERED
returns-then-self-eq-ENTERED g c = search move_entered

pub returns-then-self-eq-WAS_LEFT : goal.returns-then-self-eq-WAS_LEFT
returns-then-self-eq-WAS_LEFT g c = search move_left

pub right_or_up-requires : goal.right_or_up-requires
right_or_up-requires g c = (omega arith, search rules, search same_as, deeper_room _ _ _ _ c.goes_down-goes-then-self-eq-RETURNED.ensures)

pub returns-then-self-eq-RETURNED : goal.returns-then-self-eq-RETURNED
returns-then-self-eq-RETURNED g c = search move_returned

pub returns : goal.returns
returns g c = search move_right
