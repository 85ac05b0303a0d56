use mathlib.Core.Path.{refl}
use native.Mathlib.Omega.{arith}
use Rattle.words.proofs.Laws.{slot_live}
use Rattle.plain.proofs.Scans.{down_ends, down_stops, down_on}
use borrow.Author.Rules.{rules}
use Rattle.plain.proofs.lowest_left.Goals as goal

pub loop-init : goal.loop-init
loop-init c = (refl, omega arith)

pub returns-in_default : goal.returns-in_default
returns-in_default c = search (rules, down_stops)

pub loop-preserved : goal.loop-preserved
loop-preserved c = (search (rules, down_on), search slot_live)

pub returns : goal.returns
returns c = search (rules, down_ends)
