-- Removals one after the other.
-- Letters: n count, s slot asked for, S store, l slots
use Rattle.std.specs.Prelude.{List, [], ◌∷◌, ℕ, ◌-◌, ◌<◌}
use Rattle.tree_edit.specs.Store.{Store}
use Rattle.tree_rm_rule.specs.Remove.{remove_rule}

-- the store after the removal of each slot of a list from a store of n entries
abbrev pub after : (store : Store) (count : ℕ) (slots : List ℕ) → Store
after S n [] = S
after S n (s ∷ l) = after (remove_rule S.words S.colours n S.root s).store (n - 1) l

-- each slot of the list is below the count that there is then
abbrev pub Within : (count : ℕ) (slots : List ℕ) → Type 0
Within n [] = Unit {0}
Within n (s ∷ l) = (s < n) × Within (n - 1) l
