-- Insertions and removals one after the other, each on the newest map.
-- Letters: n count, x change, l changes, m capacity in slots, s slot, e entry, S store
use Rattle.std.specs.Prelude.{List, [], ◌∷◌, ℕ, ◌+◌, ◌-◌, ◌<◌}
use Rattle.words.specs.declared.node.Entry.{Entry}
use Rattle.tree_edit.specs.Store.{Store}
use Rattle.tree_rm_rule.specs.Remove.{remove_rule}
use Rattle.tree_in_rule.specs.Insert.{insert_rule}

pub data Change : Type 0 where
  remove : (slot : ℕ) → Change
  insert : (entry : Entry) → Change

-- the store after a change to one of n entries, and the count then
abbrev pub changed : (store : Store) (count : ℕ) (change : Change) → Store
changed S n (remove s) = (remove_rule S.words S.colours n S.root s).store
changed S n (insert e) = insert_rule S.words S.colours n S.root e

abbrev pub counted : (count : ℕ) (change : Change) → ℕ
counted n (remove s) = n - 1
counted n (insert e) = n + 1

-- after all changes of a list
abbrev pub run : (store : Store) (count : ℕ) (changes : List Change) → Store
run S n [] = S
run S n (x ∷ l) = run (changed S n x) (counted n x) l

abbrev pub total : (count : ℕ) (changes : List Change) → ℕ
total n [] = n
total n (x ∷ l) = total (counted n x) l

-- a map of n entries in an arena of m slots takes the change: the slot is there, or there is room
-- for a proper interval
abbrev pub Takes : (capacity count : ℕ) (change : Change) → Type 0
Takes m n (remove s) = s < n
Takes m n (insert e) = (n < m) × (e.start < e.end)

abbrev pub TakesAll : (capacity count : ℕ) (changes : List Change) → Type 0
TakesAll m n [] = Unit {0}
TakesAll m n (x ∷ l) = Takes m n x × TakesAll m (counted n x) l
