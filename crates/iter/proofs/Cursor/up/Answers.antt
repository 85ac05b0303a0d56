use Rattle.stack.specs.States.{top}
use Rattle.iter.proofs.Moves.{up_last, up_on}
use native.Mathlib.Omega.{arith}
use borrow.Author.Rules.{rules}
use Rattle.iter.proofs.Cursor.up.Goals as goal

pub change_state-bits-requires : goal.change_state-bits-requires
unfolding top
change_state-bits-requires c = (omega arith, search rules, omega arith)

pub returns-then-levels-eq0 : goal.returns-then-levels-eq0
unfolding top
returns-then-levels-eq0 c = search up_last

pub returns : goal.returns
unfolding top
returns c = search up_on
