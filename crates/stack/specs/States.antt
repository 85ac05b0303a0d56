-- The states of the levels. "Level j (from 0) uses bits 2j and 2j + 1".
-- Letters: j level, v state, s stack
use Rattle.std.specs.Prelude.{ℕ, ◌+◌, ◌-◌, ◌*◌, ◌/◌, ◌%◌, ◌^◌}
use Rattle.stack.specs.declared.ActionStack.{ActionStack}

-- "Stack states, first bit then last: 00 entered, 01 was left, 10 returned, 11 was right". The
-- first of a level's two bits is bit 2j: it counts 1, and the last one 2.
abbrev pub entered : ℕ
entered = 0

abbrev pub was_left : ℕ
was_left = 2

abbrev pub returned : ℕ
returned = 1

abbrev pub was_right : ℕ
was_right = 3

-- the state of level j, and the bits with the state v there
unfoldable pub state_at_lem : (bits level : ℕ) → ℕ
state_at_lem bits j = bits / 4 ^ j % 4

unfoldable pub put_state_lem : (bits level state : ℕ) → ℕ
put_state_lem bits j v = (bits / 4 ^ j / 4 * 4 + v) * 4 ^ j + bits % 4 ^ j

-- `new`: one level, 00
abbrev pub start : ActionStack
start = record { levels = 1; bits = 0 }

-- the state of the top level
unfoldable pub top : (stack : ActionStack) → ℕ
top s = state_at_lem s.bits (s.levels - 1)

-- the stack with the state v at its top level
unfoldable pub marked : (state : ℕ) (stack : ActionStack) → ActionStack
marked v s = record { levels = s.levels; bits = put_state_lem s.bits (s.levels - 1) v }

-- "the stack's push writes 00 and its pop clears its two"
unfoldable pub pushed : (stack : ActionStack) → ActionStack
pushed s = record { levels = s.levels + 1; bits = put_state_lem s.bits s.levels entered }

unfoldable pub popped : (stack : ActionStack) → ActionStack
popped s = record { levels = s.levels - 1; bits = put_state_lem s.bits (s.levels - 1) 0 }
