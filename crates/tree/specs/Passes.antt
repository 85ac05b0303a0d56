-- "A store passes exactly if": the node words W and the colour bytes C hold a map with the count n
-- and the root r.
-- Letters: W words, C colours, n count, r root, s slot
use Rattle.std.specs.Prelude.{◌≡◌, false, List, ℕ, ◌<◌}
use Rattle.words.specs.Ix.{U}
use Rattle.words.specs.Nodes.{start, stop}
use Rattle.bitvec.specs.Colours.{red}
use Rattle.tree.specs.Tree.{Tree, slots, occ, Shape}
use Rattle.tree.specs.Order.{RisingAt}
use Rattle.tree.specs.Hulls.{Hulls}
use Rattle.tree.specs.RedBlack.{root_red, RedBlack}

-- "count 0 means root U and the reverse" follows: `empty_root` and `root_empty` of proofs/Checked.
-- That two trees never pass for one store is `unique` there, and that the tree is low is
-- `tree_low`. "Slots from count up are not read": each clause is about slots below n, those of the
-- tree by `live` of Node.
pub record Passes (W C : List ℕ) (n r : ℕ) : Type 0 where
  -- the tree that the links make
  pub tree : Tree
  -- "the root and each link is U or below count; the root's parent is U; child and parent links
  -- agree"
  pub shape : Shape W n U r tree
  -- "every slot below count is reached from the root once"
  pub once : (s : ℕ) → s < n → occ s tree ≡ 1
  -- "start < end"
  pub proper : (s : ℕ) → s < n → start W s < stop W s
  -- "entries in tree order never fall (by start, then end; equals allowed)"
  pub rising : RisingAt W (slots tree)
  -- "each hull is the least start and greatest end in its subtree"
  pub hulls : Hulls W tree
  -- "the root is black"
  pub top : root_red (red C) tree ≡ false
  -- "no red node has a red child; every way down to U passes equally many blacks"
  pub red_black : RedBlack (red C) tree
