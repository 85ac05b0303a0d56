-- The colours of a tree. K says of each slot whether it is red.
-- Letters: s slot, l left subtree, r right subtree, K red? (which slots are), L claim about the
--   left subtree, R claim about the right subtree
use Rattle.std.specs.Prelude.{◌≡◌, Bool, true, false, ℕ, ◌+◌}
use Rattle.tree.specs.Tree.{Tree, leaf, node}

-- what a node counts among the blacks: 0 if it is red, 1 if it is black
abbrev pub black_of : (red? : Bool) → ℕ
black_of true = 0
black_of false = 1

-- the root is there, and it is red
abbrev pub root_red : (red? : ℕ → Bool) (tree : Tree) → Bool
root_red K leaf = false
root_red K (node l s r) = K s

-- the blacks on the way down to the left
abbrev pub blacks : (red? : ℕ → Bool) (tree : Tree) → ℕ
blacks K leaf = 0
blacks K (node l s r) = black_of (K s) + blacks K l

-- At the node s: if it is red, neither child is; both ways down pass equally many blacks; L and R
-- hold of its two subtrees.
pub record RedBlackNode (K : ℕ → Bool) (l : Tree) (s : ℕ) (r : Tree) (L R : Type 0) : Type 0 where
  pub no_red_red : K s ≡ true → (root_red K l ≡ false) × (root_red K r ≡ false)
  pub equal_blacks : blacks K l ≡ blacks K r
  pub left : L
  pub right : R

-- "no red node has a red child; every way down to U passes equally many blacks"
abbrev pub RedBlack : (red? : ℕ → Bool) (tree : Tree) → Type 0
RedBlack K leaf = Unit {0}
RedBlack K (node l s r) = RedBlackNode K l s r (RedBlack K l) (RedBlack K r)
