-- What a walk needs of its cursor, and what it knows of it.
-- Letters: n count, c cursor, p place
use Rattle.std.specs.Prelude.{◌≡◌, ℕ, ◌^◌, ◌<◌, ◌≤◌}
use Rattle.stack.specs.States.{top}
use Rattle.iter.specs.Cursors.{stack_of}
use Rattle.iter.specs.declared.Cursor.{Cursor}
use Rattle.iter.specs.declared.walk.Place.{Place}

-- at a live slot, with a top level and no more than 32 of them
abbrev pub Live : (count : ℕ) (cursor : Cursor) → Type 0
Live n c = (c.slot < n) × (1 ≤ c.levels) × (c.levels ≤ 32)

-- a top level, no more than 32 levels, and no bit above them
abbrev pub Levelled : (cursor : Cursor) → Type 0
Levelled c = (1 ≤ c.levels) × (c.levels ≤ 32) × (c.bits < 4 ^ c.levels)

-- so, if it is at a live slot
abbrev pub Placed : (count : ℕ) (cursor : Cursor) → Type 0
Placed n c = c.slot < n → Levelled c

-- a cursor with the state of its top level
abbrev pub at : (cursor : Cursor) → Place
at c = record { cursor = c; state = top (stack_of c) }

-- the state of a place is right, if its cursor is at a live slot
abbrev pub Known : (count : ℕ) (place : Place) → Type 0
Known n p = p.cursor.slot < n → p.state ≡ top (stack_of p.cursor)
