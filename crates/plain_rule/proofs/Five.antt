-- The rule of the plain lookup, computed in a store of five equal entries. Slot 1 is the root, with
-- 0 on its left and 3 on its right; 3 has 2 on its left and 4 on its right.
use mathlib.Core.Path.{◌≡◌, refl}
use mathlib.Core.List.{List, [], ◌∷◌}
use Prim.Native.Nat.{ℕ}
use Rattle.words.specs.Ix.{U, on_link}
use Rattle.words.specs.Nodes.{word}
use Rattle.tree_edit.specs.Links.{leftmost}
use Rattle.plain_rule.specs.Tour.{ascend, next_of, first_of, tour, entries}

-- a node in front of others, by its left, right and parent
abbrev slot : ℕ → ℕ → ℕ → List ℕ → List ℕ
slot l r p rest = 1 ∷ 2 ∷ 9 ∷ 1 ∷ 2 ∷ l ∷ r ∷ p ∷ rest

abbrev five : List ℕ
five = slot U U 1 (slot 0 3 U (slot U U 3 (slot 2 4 1 (slot U U 3 []))))

-- the entry above that has slot 0 on its left; the first; the one after the root; all of them
pub five_up : ascend 5 32 five 0 ≡ 1
unfolding ascend on_link word
five_up = refl

pub five_first : first_of 5 five 1 ≡ 0
unfolding first_of leftmost on_link word
five_first = refl

pub five_next : next_of 5 five 1 ≡ 2
unfolding next_of leftmost on_link word
five_next = refl

pub five_entries : entries 5 five 1 ≡ 0 ∷ 1 ∷ 2 ∷ 3 ∷ 4 ∷ []
unfolding entries tour next_of first_of ascend leftmost on_link word
five_entries = refl
