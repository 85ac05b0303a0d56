use mathlib.Core.Path.{refl}
use native.Mathlib.Omega.{arith}
use mathlib.Core.Bool.{true, false}
use Rattle.words.specs.Layouts.{as_eight}
use Rattle.words.specs.Nodes.{kid}
use Rattle.fast.proofs.Rounds.{child_live, begin, left_room, kept_length, note_room, next_room, again, stops, ends, left_there, left_none}
use Rattle.fast.proofs.+find_down_find_left.Goals as goal

pub find_down-loop-left-init : goal.find_down-loop-left-init
find_down-loop-left-init g t c = (search begin, omega arith, omega arith, (omega arith, omega arith), refl)

pub find_down-overflow_add-tally : goal.find_down-overflow_add-tally
find_down-overflow_add-tally g t c = omega arith

pub find_down-find_left-tally-requires : goal.find_down-find_left-tally-requires
find_down-find_left-tally-requires g t c = λ κs o. (omega arith, (o, (omega arith, omega arith, search left_room)))

pub find_down-seeks-requires : goal.find_down-seeks-requires
find_down-seeks-requires g t c = omega arith

pub find_down-note-requires : goal.find_down-note-requires
find_down-note-requires g t c = search note_room

pub find_down-goes-requires : goal.find_down-goes-requires
find_down-goes-requires g t c = (omega arith, omega arith)

pub find_down-child_of-at-requires : goal.find_down-child_of-at-requires
find_down-child_of-at-requires g t c = omega arith

pub find_down-loop-left-preserved : goal.find_down-loop-left-preserved
find_down-loop-left-preserved g t c = (search again, child_live c.child_of-at.result (kid (as_eight c.args.narrow c.args.nodes.now) false c.loop-left.at) _ c.child_of-at.ensures.0 (c.goes.ensures.1 c.if-not-goes.false), omega arith, search next_room, search kept_length)

pub find_down-returns-then-not-goes : goal.find_down-returns-then-not-goes
find_down-returns-then-not-goes g t c = search stops

pub find_down-returns : goal.find_down-returns
find_down-returns g t c = ends _ _ _ _ _ _ _ _ _ _ _ c.loop-left.invariant.0 (omega arith)

pub find_left-find_down-requires : goal.find_left-find_down-requires
find_left-find_down-requires g t c = λ κs o. (
  omega arith,
  (o, (omega arith, child_live c.child_of-child.result (kid (as_eight c.args.narrow c.args.nodes.now) true c.args.slot) _ c.child_of-child.ensures.0 (c.goes.ensures.1 c.if-goes.true), (omega arith, omega arith))),
)

pub find_left-returns-then-goes : goal.find_left-returns-then-goes
find_left-returns-then-goes g t c = search left_there

pub find_left-returns-else-goes : goal.find_left-returns-else-goes
find_left-returns-else-goes g t c = search left_none
