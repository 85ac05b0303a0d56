use Rattle.tree_rm.proofs.Removes.{goes_down, right_there, stays_here}
use borrow.Author.Rules.{rules}
use native.Mathlib.Omega.{arith}
use Rattle.tree_rm.proofs.remove.slot_to_vacate.Goals as goal

pub leftmost_from-requires : goal.leftmost_from-requires
leftmost_from-requires c = (omega arith, search right_there)

pub returns-then-count-right : goal.returns-then-count-right
returns-then-count-right c = (search stays_here, omega arith)

pub returns-else-count-right : goal.returns-else-count-right
returns-else-count-right c = (search goes_down, omega arith)
