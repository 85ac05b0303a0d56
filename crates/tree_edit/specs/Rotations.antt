-- A rotation's links, in the three orders in which they are written.
-- Letters: W words, n count, b side (true: left), P parent, S sibling, c close nephew
use Rattle.std.specs.Prelude.{Bool, not, List, ℕ}
use Rattle.words.specs.Nodes.{kid}
use Rattle.tree_edit.specs.Links.{set_child_lem, replaced}

-- A node stands on the side b of its parent P (`true`: left), its sibling is S: S comes up into the
-- place of P. The two writes below it stand in the one order in the fifth case and in the other in
-- the second.
unfoldable pub rotate : (count : ℕ) (words : List ℕ) (side : Bool) (parent sibling : ℕ) → List ℕ
rotate n W b P S = set_child_lem n (set_child_lem n (replaced n W P S) P (kid W b S) (not b)) S P b

unfoldable pub rotate_2 : (count : ℕ) (words : List ℕ) (side : Bool) (parent sibling : ℕ) → List ℕ
rotate_2 n W b P S = set_child_lem n (set_child_lem n (replaced n W P S) S P b) P (kid W b S) (not b)

-- the fourth case: the close nephew c comes up into the place of S below P
unfoldable pub rotate_4 : (count : ℕ) (words : List ℕ) (side : Bool) (parent sibling close : ℕ)
    → List ℕ
rotate_4 n W b P S c = set_child_lem n (set_child_lem n (set_child_lem n W S (kid W (not b) c) b) c S (not b)) P c (not b)
