use Rattle.iter.proofs.Laws.{room}
use native.Mathlib.Omega.{arith}
use borrow.Author.Rules.{rules}
use Rattle.iter.proofs.Cursor.left_or_mark.Goals as goal

pub down-requires : goal.down-requires
down-requires c = (omega arith, omega arith, search room, search rules, search rules)

pub returns-then-goes : goal.returns-then-goes
returns-then-goes c = rw c.if-goes.true c.down.ensures

pub returns-else-goes : goal.returns-else-goes
returns-else-goes c = rw c.if-goes.false c.mark.ensures
