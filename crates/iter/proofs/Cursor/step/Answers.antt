use Rattle.iter.proofs.Laws.{placed_as}
use Rattle.iter.proofs.Moves.{step_within, step_equal}
use native.Mathlib.Omega.{arith}
use borrow.Author.Rules.{rules}
use Rattle.iter.proofs.Cursor.step.Goals as goal

pub move_to_next-requires : goal.move_to_next-requires
move_to_next-requires c = (omega arith, omega arith, search placed_as, search rules, omega arith)

pub move_to_next-requires-in-Equal : goal.move_to_next-requires-in-Equal
move_to_next-requires-in-Equal c = (omega arith, omega arith, search placed_as, search rules, omega arith)

pub returns-in-Within : goal.returns-in-Within
returns-in-Within c = (search step_within, search rules)

pub returns-in-Equal : goal.returns-in-Equal
returns-in-Equal c = (search step_equal, search rules)
