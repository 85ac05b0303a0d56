-- One way down a tree. At each node one test says whether the way ends there, and another test says
-- on which side it goes on if it does not.
-- Letters: W words, n count, D way down, k link, d slot further down, l nodes further down
use Rattle.std.specs.Prelude.{Bool, cond, List, [], ◌∷◌, ℕ, zero, suc, ltb}
use Rattle.words.specs.Ix.{U}
use Rattle.words.specs.Nodes.{kid}

pub record WayDown : Type 0 where
  -- the way ends at a slot
  pub ends : (slot : ℕ) → Bool
  -- if not, it goes on to the left child of the slot; else to the right one
  pub left : (slot : ℕ) → Bool

-- the slot at which the way from the link k ends, U if it ends at none; it visits at most `height`
-- nodes
unfoldable pub way_end : (way : WayDown) (words : List ℕ) (count height link : ℕ) → ℕ
way_end D W n zero k = U
way_end D W n (suc height) k =
    let d : ℕ = way_end D W n height (kid W (D.left k) k) in
    cond (ltb k n) (cond (D.ends k) k d) U

-- the nodes that it visits, in order; the last one is that at which it ends
unfoldable pub way_nodes : (way : WayDown) (words : List ℕ) (count height link : ℕ) → List ℕ
way_nodes D W n zero k = []
way_nodes D W n (suc height) k =
    let l : List ℕ = way_nodes D W n height (kid W (D.left k) k) in
    cond (ltb k n) (k ∷ cond (D.ends k) [] l) []
