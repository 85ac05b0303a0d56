use mathlib.Core.Path.{refl}
use native.Mathlib.Omega.{arith}
use Rattle.words.proofs.Laws.{slot_live, slot_room}
use Rattle.plain.proofs.Scans.{above_ends, above_stops, above_here, above_on}
use borrow.Author.Rules.{rules}
use Rattle.plain.proofs.next_above.Goals as goal

pub loop-init : goal.loop-init
loop-init c = (refl, omega arith)

pub returns-in_default : goal.returns-in_default
returns-in_default c = search (rules, above_stops)

pub child_of-requires : goal.child_of-requires
child_of-requires c = search slot_room

pub returns-then-child_of-at : goal.returns-then-child_of-at
returns-then-child_of-at c = search (rules, above_here)

pub loop-preserved : goal.loop-preserved
loop-preserved c = (search (rules, above_on), search slot_live)

pub returns : goal.returns
returns c = search (rules, above_ends)
