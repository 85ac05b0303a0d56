use Rattle.stack.specs.States.{top}
use Rattle.iter.proofs.Moves.{down_at}
use native.Mathlib.Omega.{arith}
use borrow.Author.Rules.{rules}
use Rattle.iter.proofs.Cursor.down.Goals as goal

pub change_state-requires : goal.change_state-requires
unfolding top
change_state-requires c = (omega arith, search rules, omega arith)

pub returns : goal.returns
unfolding top
returns c = search down_at
