-- The tree that the table reads off the links is the check's, so its t and its bound are those of
-- demand 3.
use mathlib.Core.Path.{◌≡◌, refl}
use mathlib.Core.Bool.{true, false}
use mathlib.Core.List.{List}
use Prim.Native.Nat.{ℕ, zero, suc, ◌≤◌}
use native.Mathlib.Omega.{arith}
use lib.Dec.{eqb}
use borrow.Author.Tests.{ne_eqb}
use Rattle.words.specs.Ix.{U}
use Rattle.words.specs.Nodes.{kid}
use Rattle.words.specs.declared.interval.Span.{Span}
use Rattle.tree.specs.Tree.{Tree, leaf, node, height, Shape}
use Rattle.tree.specs.Passes.{Passes}
use Rattle.tree.proofs.Checked.{tree_low}
use Rattle.iter.specs.Cursors.{fresh}
use Rattle.iter.specs.Drains.{drain}
use Rattle.iter.specs.Overlap.{overlap}
use Rattle.iter_laws.specs.Entered.{touching}
use Rattle.iter_laws.proofs.OverlapRuns.{overlap_bound}
use Rattle.iset.specs.Sequence.{State}
use Rattle.test_document.specs.Stores.{tree_at, tree_of, touched, bound_of}

read_at : (W : List ℕ) (n : ℕ) → n ≤ 65535 → (p k levels : ℕ) (t : Tree) → Shape W n p k t → height t ≤ levels → tree_at W levels k ≡ t
unfolding tree_at
read_at W n small p k zero leaf h low = refl
read_at W n small p k zero (node l s r) h low = absurd (omega arith)
read_at W n small p k (suc levels) leaf h low = rw h refl
read_at W n small p k (suc levels) (node l s r) h low =
    let u : eqb s U ≡ false = ne_eqb s U (omega (arith, h.live)) in
    rw (
      h.here,
      u,
      read_at W n small s (kid W true s) levels l h.left (omega arith),
      read_at W n small s (kid W false s) levels r h.right (omega arith),
    ) refl

module _ (t : State) (small : t.map.count ≤ 65535) (P : Passes t.words t.colours t.map.count t.map.root) where
  pub read_tree : tree_of t ≡ P.tree
  unfolding tree_of
  read_tree =
      read_at t.words t.map.count small U t.map.root 32 P.tree P.shape
      (tree_low t.words t.colours t.map.count t.map.root P small)

  pub touched_is : (q : Span) → touched t q ≡ touching t.words q P.tree
  unfolding touched
  touched_is q = rw read_tree refl

  -- the table's bound is a bound, for a drain with any limit
  pub bounded : (q : Span) (limit : ℕ)
      → (drain t.words t.map.count (overlap t.words t.map.count q) limit (fresh t.map.root)).entered ≤ bound_of t q
  unfolding bound_of touched
  bounded q limit = rw read_tree (overlap_bound t.words t.colours t.map.count t.map.root 1 q small P limit)
