-- What a store says at a tree's slots, as a tree of its own, with no slot in it. Order, hulls and
-- colours depend on that alone.
-- Letters: W words, s slot, l left subtree, r right subtree, K red? (which slots are)
use Rattle.std.specs.Prelude.{Bool, List, ℕ}
use Rattle.words.specs.Nodes.{value, interval, hull}
use Rattle.words.specs.declared.interval.Interval.{Interval}
use Rattle.tree.specs.Tree.{Tree, leaf, node}

-- interval, value, hull and colour: all that a slot holds besides its links
pub record Datum : Type 0 where
  pub interval : Interval
  pub value : ℕ
  pub hull : Interval
  pub red? : Bool

-- what slot s holds, where K says which slots are red
unfoldable pub datum : (words : List ℕ) (red? : ℕ → Bool) (slot : ℕ) → Datum
datum W K s = record { interval = interval W s; value = value W s; hull = hull W s; red? = K s }

-- nothing, or a datum with a left and a right part
pub data View : Type 0 where
  none : View
  some : (left : View) (datum : Datum) (right : View) → View

-- the view of a tree
abbrev pub view : (words : List ℕ) (red? : ℕ → Bool) (tree : Tree) → View
view W K leaf = none
view W K (node l s r) = some (view W K l) (datum W K s) (view W K r)
