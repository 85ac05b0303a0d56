-- The rules of overlap lookup, on a tree: pruning loses no hit, and the walk goes where the entered
-- rule says.
use mathlib.Core.Path.{◌≡◌, refl, sym, ◌∙◌}
use mathlib.Core.Bool.{Bool, true, false}
use mathlib.Core.List.{List}
use Prim.Native.Nat.{ℕ, ◌≤◌}
use native.Mathlib.Omega.{arith}
use Rattle.words.specs.Ix.{U, on_link}
use Rattle.words.specs.Nodes.{start, stop, lo, hi, kid}
use Rattle.words.specs.Intervals.{passed}
use Rattle.words.specs.declared.interval.Span.{Span}
use Rattle.tree.specs.Tree.{Tree, leaf, node, Shape}
use Rattle.tree.specs.Hulls.{Hulls}
use Rattle.tree.specs.Passes.{Passes}
use Rattle.tree.proofs.Checked.{tree_size, tree_low}
use Rattle.iter.specs.Ranges.{by_rule_lem}
use Rattle.iter.specs.Overlap.{meets, should_go, ruled}
use Rattle.iter_laws.specs.Entered.{overlap_rule, goes}
use Rattle.iter.proofs.Bools.{and_false}
use Rattle.iter_laws.proofs.Script.{Empty, Fairs}
use Rattle.iter_laws.proofs.Walks.{Walk, links, follows}
use Rattle.iter_laws.proofs.Bounds.{passed_not, admits_not}
use Rattle.iter_laws.proofs.Within.{within}

module _ (W : List ℕ) (n k : ℕ) (q : Span) where
  by_link : (b : Bool) (s : ℕ) → should_go W n q b s ≡ on_link n (kid W b s) (overlap_rule W q b s) false
  unfolding should_go
  by_link true s = refl
  by_link false s = refl

  -- a subtree that is not gone into has no entry that intersects
  none : (b : Bool) (s : ℕ) (t : Tree) → Hulls W t → goes (overlap_rule W q) b s t ≡ false → Empty (ruled W n k q) t
  unfolding meets
  none b s leaf h e a o = absurd (omega arith)
  none true s (node l c r) h e a o = rw (passed_not k q.lo (stop W a) (hi W c) (within W l c r a h o).1 e)
  none false s (node l c r) h e a o =
      rw (admits_not q.hi (lo W c) (start W a) (within W l c r a h o).0 e) (and_false (passed (by_rule_lem k q).lo (stop W a)))

  module _ (small : n ≤ 65535) where
    rule : (b : Bool) (s : ℕ) (t : Tree) → Shape W n s (kid W b s) t → should_go W n q b s ≡ goes (overlap_rule W q) b s t
    rule = follows W n (ruled W n k q) (overlap_rule W q) by_link small

    fair : (p c : ℕ) (t : Tree) → Shape W n p c t → Hulls W t → Fairs (ruled W n k q) t
    fair p c leaf h u = tt
    fair p c (node l s r) h u =
        record {
          no_left = λ e. none true s l u.left (sym (rule true s l h.left) ∙ e);
          no_right = λ e. none false s r u.right (sym (rule false s r h.right) ∙ e);
          left = fair s (kid W true s) l h.left u.left;
          right = fair s (kid W false s) r h.right u.right;
        }

-- the walk through the whole tree of a store
pub overlap_walk : (W C : List ℕ) (n r k : ℕ) (q : Span) → n ≤ 65535 → (P : Passes W C n r) → Walk W n (ruled W n k q) (overlap_rule W q) U r P.tree
overlap_walk W C n r k q small P =
    record {
      small = small;
      linked = links W n (ruled W n k q) (overlap_rule W q) (by_link W n k q);
      shape = P.shape;
      few = omega (arith, tree_size W C n r P);
      low = tree_low W C n r P small;
      fair = fair W n k q small U r P.tree P.shape P.hulls;
      rule = rule W n k q small;
    }
