-- The tree that a store holds, by its slots.
-- Letters: W words, n count, s slot, a other slot, l left subtree or slots, d default slot,
--   p parent, k link, r right subtree, L claim about the left subtree, R claim about the right
--   subtree
use Rattle.std.specs.Prelude.{◌≡◌, true, false, cond, List, [], ◌∷◌, ◌++◌, ℕ, suc, ◌+◌, ◌<◌, max, eqb}
use Rattle.words.specs.Ix.{U}
use Rattle.words.specs.Nodes.{kid, par}

-- nothing, or a slot with a left and a right subtree
pub data Tree : Type 0 where
  leaf : Tree
  node : (left : Tree) (slot : ℕ) (right : Tree) → Tree

-- the slots in tree order: left subtree, node, right subtree
abbrev pub slots : (tree : Tree) → List ℕ
slots leaf = []
slots (node l s r) = slots l ++ (s ∷ slots r)

-- a list of slots with the slot s left out
abbrev pub without : (slot : ℕ) (slots : List ℕ) → List ℕ
without s [] = []
without s (a ∷ l) = cond (eqb a s) (without s l) (a ∷ without s l)

-- 1 where the two slots are one, and else 0
unfoldable pub hit : (slot other : ℕ) → ℕ
hit s a = cond (eqb s a) 1 0

-- how often the slot s stands in a list
abbrev pub times : (slot : ℕ) (slots : List ℕ) → ℕ
times s [] = 0
times s (a ∷ l) = hit s a + times s l

-- how often the slot s stands in a tree
abbrev pub occ : (slot : ℕ) (tree : Tree) → ℕ
occ s leaf = 0
occ s (node l a r) = occ s l + hit s a + occ s r

-- the number of nodes
abbrev pub size : (tree : Tree) → ℕ
size leaf = 0
size (node l s r) = suc (size l + size r)

-- "Height is the number of nodes on the longest way down."
abbrev pub height : (tree : Tree) → ℕ
height leaf = 0
height (node l s r) = suc (max (height l) (height r))

-- the first, and the last, slot in tree order; d where there is none
abbrev pub first : (default : ℕ) (tree : Tree) → ℕ
first d leaf = d
first d (node l s r) = first s l

abbrev pub last : (default : ℕ) (tree : Tree) → ℕ
last d leaf = d
last d (node l s r) = last s r

-- The link k leads to the node s: s is below the count n, its parent link is p, and L and R hold of
-- its two subtrees.
pub record Node (W : List ℕ) (n p k s : ℕ) (L R : Type 0) : Type 0 where
  pub here : k ≡ s
  pub live : s < n
  pub up : par W s ≡ p
  pub left : L
  pub right : R

-- The link k leads to the tree t, and p is the parent of its root. So "each link is U or below
-- count" and "child and parent links agree": a link is U and the tree is a leaf, or it is a slot
-- below the count whose parent link leads back.
abbrev pub Shape : (words : List ℕ) (count parent link : ℕ) (tree : Tree) → Type 0
Shape W n p k leaf = k ≡ U
Shape W n p k (node l s r) = Node W n p k s (Shape W n s (kid W true s) l) (Shape W n s (kid W false s) r)
