use native.Mathlib.Omega.{arith}
use Rattle.words.proofs.Laws.{slot_live}
use Rattle.tidy_core.proofs.Planning.{slot_bytes, slot_place, number_begin, number_none, number_full, number_on}
use Rattle.tidy_core.proofs.planner.number_all.Goals as goal

pub loop-place-init : goal.loop-place-init
loop-place-init c = search number_begin

pub returns-in_default : goal.returns-in_default
returns-in_default c = search number_none

pub offset_bounds-out-slot : goal.offset_bounds-out-slot
offset_bounds-out-slot c = search slot_bytes

pub bounds-out-slot : goal.bounds-out-slot
bounds-out-slot c = search slot_place

pub next_slot-at-requires : goal.next_slot-at-requires
next_slot-at-requires c = (omega arith, search slot_live)

pub loop-place-preserved : goal.loop-place-preserved
loop-place-preserved c = search number_on

pub returns : goal.returns
returns c = search number_full
