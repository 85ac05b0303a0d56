-- "each hull is the least start and greatest end in its subtree"
-- Letters: W words, f measure of a slot, d initial number, h hull word of a slot, t tree, s slot,
--   l left subtree, r right subtree, L claim about the left subtree, R claim about the right
--   subtree
use Rattle.std.specs.Prelude.{◌≡◌, List, ℕ, min, max}
use Rattle.words.specs.Nodes.{start, stop, lo, hi}
use Rattle.tree.specs.Tree.{Tree, leaf, node}

-- d and the f of each slot of a tree, taken together by an operation
abbrev pub gather : (op : ℕ → ℕ → ℕ) (measure : ℕ → ℕ) (tree : Tree) (initial : ℕ) → ℕ
gather op f leaf d = d
gather op f (node l s r) d = gather op f l (op (f s) (gather op f r d))

-- the least of d and the f of each slot, and the greatest
abbrev pub least : (measure : ℕ → ℕ) (tree : Tree) (initial : ℕ) → ℕ
least f t d = gather min f t d

abbrev pub most : (measure : ℕ → ℕ) (tree : Tree) (initial : ℕ) → ℕ
most f t d = gather max f t d

-- The hull words of the node s are the least start and the greatest end; L and R hold of its two
-- subtrees.
pub record Hull (W : List ℕ) (l : Tree) (s : ℕ) (r : Tree) (L R : Type 0) : Type 0 where
  pub low : lo W s ≡ least (start W) (node l s r) (start W s)
  pub high : hi W s ≡ most (stop W) (node l s r) (stop W s)
  pub left : L
  pub right : R

-- so at every node
abbrev pub Hulls : (words : List ℕ) (tree : Tree) → Type 0
Hulls W leaf = Unit {0}
Hulls W (node l s r) = Hull W l s r (Hulls W l) (Hulls W r)

-- d taken together with the h of a tree's root
abbrev pub on_root : (op : ℕ → ℕ → ℕ) (hull : ℕ → ℕ) (tree : Tree) (initial : ℕ) → ℕ
on_root op h leaf d = d
on_root op h (node l s r) d = op (h s) d

-- the lesser of d and the hull start of the root, and the greater of d and its hull end
abbrev pub lowest : (words : List ℕ) (tree : Tree) (initial : ℕ) → ℕ
lowest W t d = on_root min (lo W) t d

abbrev pub highest : (words : List ℕ) (tree : Tree) (initial : ℕ) → ℕ
highest W t d = on_root max (hi W) t d
