-- "Exact lookup starts at the highest equal node".
-- Letters: W words, x interval asked for, t tree, k slot
use Rattle.std.specs.Prelude.{◌≡◌, true, List, [], ℕ}
use Rattle.words.specs.Lists.{filter}
use Rattle.words.specs.declared.interval.Interval.{Interval}
use Rattle.tree.specs.Tree.{Tree, node}
use Rattle.tree.specs.Zipper.{Frame, plug}
use Rattle.iter.specs.Exact.{equals}
use Rattle.iter_laws.specs.Place.{earlier, later}

-- the node of slot k is equal to the query, and every other such node of the tree is below it
pub record Highest (W : List ℕ) (x : Interval) (t : Tree) (k : ℕ) : Type 0 where
  pub way : List Frame
  pub left : Tree
  pub right : Tree
  pub there : plug way (node left k right) ≡ t
  pub equal : equals W x k ≡ true
  pub none_before : filter (equals W x) (earlier way) ≡ []
  pub none_after : filter (equals W x) (later way) ≡ []
