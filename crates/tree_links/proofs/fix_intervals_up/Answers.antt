use Rattle.tree_links.proofs.LinkLaws.{room_after, up_again, up_ends, up_stops, reach_again, reach_stops, reach_ends, reach_fits, reach_room}
use Rattle.words.proofs.Laws.{slot_live}
use mathlib.Core.Path.{refl}
use native.Mathlib.Omega.{arith}
use Rattle.tree_links.proofs.fix_intervals_up.Goals as goal

pub loop-init : goal.loop-init
loop-init c = record { rest = refl; sum = omega arith; small = omega arith }

pub returns-in_default : goal.returns-in_default
returns-in_default c = (search reach_stops, search up_stops)

pub rework_hull-reach-requires : goal.rework_hull-reach-requires
rework_hull-reach-requires c = (omega arith, search slot_live)

pub overflow_add-reach : goal.overflow_add-reach
overflow_add-reach c = search reach_fits

pub parent_of-at-requires : goal.parent_of-at-requires
parent_of-at-requires c = search room_after

pub loop-preserved : goal.loop-preserved
loop-preserved c = record { rest = search up_again; sum = search reach_again; small = search reach_room }

pub returns : goal.returns
returns c = (search reach_ends, search up_ends)
