-- The places of a walk in a tree: the held form of a cursor, and what comes before and after it.
-- Letters: q state, bs sides, c way up or cursor, b side (true: left), s slot, t tree
use Rattle.std.specs.Prelude.{◌≡◌, Bool, true, false, List, [], ◌∷◌, ◌++◌, ℕ, suc, ◌+◌, ◌*◌, ◌^◌, length}
use Rattle.tree.specs.Tree.{Tree, node, slots}
use Rattle.tree.specs.Zipper.{Frame, frame, plug}
use Rattle.stack.specs.States.{returned}
use Rattle.iter.specs.Walk.{side}
use Rattle.iter.specs.declared.Cursor.{Cursor}

-- the sides of a way up, the nearest first: `true` where it comes from the left
abbrev pub sides : (way : List Frame) → List Bool
sides [] = []
sides (frame b s far ∷ c) = b ∷ sides c

-- the states of a way, two bits a level
abbrev pub pack : (sides : List Bool) → ℕ
pack [] = 0
pack (b ∷ bs) = side b * 4 ^ length bs + pack bs

-- the cursor at the slot s in state q, below a way
unfoldable pub at : (slot state : ℕ) (sides : List Bool) → Cursor
at s q bs = record { slot = s; levels = suc (length bs); bits = q * 4 ^ length bs + pack bs }

-- the held cursor at the slot s: top 10
abbrev pub held : (slot : ℕ) (sides : List Bool) → Cursor
held s bs = at s returned bs

-- "Held: a live slot, as many levels as its depth, top 10, each ancestor 01 or 11 by side"
pub record Held (t : Tree) (c : Cursor) : Type 0 where
  pub way : List Frame
  pub left : Tree
  pub slot : ℕ
  pub right : Tree
  pub there : plug way (node left slot right) ≡ t
  pub is : c ≡ held slot (sides way)

-- the slots before, and after, a place: those of the tree are `earlier way`, those of the subtree
-- at the place, `later way`
abbrev pub earlier : (way : List Frame) → List ℕ
earlier [] = []
earlier (frame true s far ∷ c) = earlier c
earlier (frame false s far ∷ c) = earlier c ++ (slots far ++ (s ∷ []))

abbrev pub later : (way : List Frame) → List ℕ
later [] = []
later (frame true s far ∷ c) = s ∷ (slots far ++ later c)
later (frame false s far ∷ c) = later c
