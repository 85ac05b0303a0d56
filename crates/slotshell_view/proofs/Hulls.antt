-- The hulls that are worked out from an image are those of the store.
use mathlib.Core.Path.{◌≡◌, refl, sym, ap, ◌∙◌}
use mathlib.Core.Bool.{Bool, true, false}
use mathlib.Core.List.{List}
use Prim.Native.Nat.{ℕ, zero, suc, ◌<◌, ◌≤◌, min, max}
use native.Mathlib.Omega.{arith}
use Rattle.words.specs.Intervals.{extended}
use Rattle.words.specs.Nodes.{start, stop, lo, hi, kid, interval, hull}
use Rattle.words.specs.declared.interval.Interval.{Interval}
use Rattle.tree.specs.Tree.{Tree, leaf, node, occ, height, Shape}
use Rattle.tree.specs.Hulls.{Hulls}
use Rattle.tree.proofs.Hulls.{low_node, high_node}
use Rattle.tree.proofs.Slots.{occ_cases}
use Rattle.tree_edit.proofs.Links.{on_slot, on_none}
use Rattle.audit.proofs.Fits.{root_hull, hull_is}
use Rattle.image_rule.specs.Stored.{interval_in_lem, child_in_lem}
use Rattle.slotshell_view.specs.View.{hull_below_lem, hull_in_lem}

-- The bytes I have the children and the intervals of the first n slots of the words W.
pub record Alike (I W : List ℕ) (n : ℕ) : Type 0 where
  pub few : n ≤ 65535
  pub child : (b : Bool) (s : ℕ) → s < n → child_in_lem I n b s ≡ kid W b s
  pub own : (s : ℕ) → s < n → interval_in_lem I s ≡ interval W s

-- the hull of a node, from those of its subtrees
from_subtrees : (W : List ℕ) (l : Tree) (s : ℕ) (r : Tree) → Hulls W (node l s r)
    → extended (extended (interval W s) (root_hull W W (interval W s) l)) (root_hull W W (interval W s) r) ≡ hull W s
from_subtrees W l s r h =
    let low : min (min (start W s) (root_hull W W (interval W s) l).start) (root_hull W W (interval W s) r).start ≡ lo W s =
    (hull_is W W s l r).0 ∙ low_node W l s r h.left h.right ∙ sym h.low in
    let high : max (max (stop W s) (root_hull W W (interval W s) l).end) (root_hull W W (interval W s) r).end ≡ hi W s =
    (hull_is W W s l r).1 ∙ high_node W l s r h.left h.right ∙ sym h.high in
    λ t. record { start = low t; end = high t }

module _ (I W : List ℕ) (n : ℕ) (alike : Alike I W n) where
  -- a link to a tree that is not too high
  hull_below_law : (h p k : ℕ) (d : Interval) (t : Tree) → Shape W n p k t → Hulls W t → height t ≤ h → hull_below_lem I n h k d ≡ root_hull W W d t
  unfolding hull_below_lem
  hull_below_law zero p k d leaf g i q = refl
  hull_below_law zero p k d (node l s r) g i q = absurd (omega arith)
  hull_below_law (suc h) p k d leaf g i q = on_none n k (omega (arith, alike.few)) _ d
  hull_below_law (suc h) p k d (node l s r) g i q =
      let e : k ≡ s = g.here in
      rw e
      (on_slot n s g.live _ d
      ∙ ap (λ (x : Interval). extended (extended x (hull_below_lem I n h (child_in_lem I n true s) x)) (hull_below_lem I n h (child_in_lem I n false s) x)) (alike.own s g.live)
      ∙ rw (
        alike.child true s g.live,
        alike.child false s g.live,
        hull_below_law h s (kid W true s) (interval W s) l g.left i.left (omega arith),
        hull_below_law h s (kid W false s) (interval W s) r g.right i.right (omega arith),
      ) (from_subtrees W l s r i))

  -- each node of a tree
  pub hull_at_lem : (p k : ℕ) (t : Tree) → Shape W n p k t → Hulls W t → height t ≤ 32 → (s : ℕ) → 0 < occ s t → hull_in_lem I n s ≡ hull W s
  hull_at_lem p k leaf g i q s o = absurd (omega arith)
  hull_at_lem p k (node l a r) g i q s o =
      occ_cases s a l r o
      (hull_at_lem a (kid W true a) l g.left i.left (omega arith) s)
      (λ e. rw e (hull_below_law 32 p a (interval_in_lem I a) (node l a r) (rw g.here at g) i q))
      (hull_at_lem a (kid W false a) r g.right i.right (omega arith) s)
