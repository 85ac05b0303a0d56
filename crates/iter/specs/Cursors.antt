-- The place of a walk: a slot, and the stack beside it.
-- Letters: z stack, k slot, p parent, c cursor, s slot
use Rattle.std.specs.Prelude.{cond, ℕ, eqb}
use Rattle.words.specs.Ix.{U}
use Rattle.stack.specs.States.{start, popped}
use Rattle.stack.specs.declared.ActionStack.{ActionStack}
use Rattle.iter.specs.declared.Cursor.{Cursor}

-- the cursor at the slot s with a stack, and the stack of a cursor
abbrev pub cursor : (slot : ℕ) (stack : ActionStack) → Cursor
cursor s z = record { slot = s; levels = z.levels; bits = z.bits }

abbrev pub stack_of : (cursor : Cursor) → ActionStack
stack_of c = record { levels = c.levels; bits = c.bits }

-- "Fresh: slot root, one level, state 00 (slot U on an empty map)", for exact lookup with the slot
-- that it starts at
abbrev pub fresh : (slot : ℕ) → Cursor
fresh k = cursor k start

-- "Ended: U, no levels"
abbrev pub ended : Cursor
ended = record { slot = U; levels = 0; bits = 0 }

-- up to the slot p; to U where the stack is empty then
unfoldable pub up_to : (parent : ℕ) (cursor : Cursor) → Cursor
up_to p c = cursor (cond (eqb c.levels 1) U p) (popped (stack_of c))
