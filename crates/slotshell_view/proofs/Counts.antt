-- The height and the number of the entries that meet or touch a range, worked out from an image,
-- are those of the tree.
use mathlib.Core.Path.{◌≡◌, refl, ap, ◌∙◌}
use mathlib.Core.Bool.{Bool, true, false, cond}
use mathlib.Core.List.{List, ◌∷◌}
use Prim.Native.Nat.{ℕ, zero, suc, ◌+◌, ◌≤◌}
use native.Mathlib.Omega.{arith}
use lib.ListN.{length, length-append}
use Rattle.words.specs.Intervals.{touches}
use Rattle.words.specs.Lists.{filter}
use Rattle.words.specs.Nodes.{kid, interval}
use Rattle.words.specs.declared.interval.Interval.{Interval}
use Rattle.words.specs.declared.interval.Span.{Span}
use Rattle.words.proofs.Lists.{filter_append}
use Rattle.tree.specs.Tree.{Tree, leaf, node, slots, height, Shape}
use Rattle.tree_edit.proofs.Links.{on_slot, on_none}
use Rattle.iter_laws.specs.Entered.{touching}
use Rattle.image_rule.specs.Stored.{child_in_lem}
use Rattle.slotshell_view.specs.View.{height_below_lem, one, touching_below_lem}
use Rattle.slotshell_view.proofs.Hulls.{Alike}

touching_node : (W : List ℕ) (q : Span) (l : Tree) (s : ℕ) (r : Tree)
    → touching W q l + (one (touches q (interval W s)) + touching W q r) ≡ touching W q (node l s r)
touching_node W q l s r = rw (filter_append, length-append) (go (touches q (interval W s)))
  where
    F : List ℕ
    F = filter (λ a. touches q (interval W a)) (slots r)

    go : (b : Bool) → touching W q l + (one b + length F) ≡ touching W q l + length (cond b (s ∷ F) F)
    go true = omega arith
    go false = omega arith

module _ (I W : List ℕ) (n : ℕ) (alike : Alike I W n) where
  -- a link to a tree that is not too high
  pub height_below_law : (h p k : ℕ) (t : Tree) → Shape W n p k t → height t ≤ h → height_below_lem I n h k ≡ height t
  unfolding height_below_lem
  height_below_law zero p k leaf g i = refl
  height_below_law zero p k (node l s r) g i = absurd (omega arith)
  height_below_law (suc h) p k leaf g i = on_none n k (omega (arith, alike.few)) _ 0
  height_below_law (suc h) p k (node l s r) g i =
      let e : k ≡ s = g.here in
      rw e
      (on_slot n s g.live _ 0
      ∙ rw (
        alike.child true s g.live,
        alike.child false s g.live,
        height_below_law h s (kid W true s) l g.left (omega arith),
        height_below_law h s (kid W false s) r g.right (omega arith),
      ))

  pub touching_below_law : (q : Span) (h p k : ℕ) (t : Tree) → Shape W n p k t → height t ≤ h → touching_below_lem I n q h k ≡ touching W q t
  unfolding touching_below_lem
  touching_below_law q zero p k leaf g i = refl
  touching_below_law q zero p k (node l s r) g i = absurd (omega arith)
  touching_below_law q (suc h) p k leaf g i = on_none n k (omega (arith, alike.few)) _ 0
  touching_below_law q (suc h) p k (node l s r) g i =
      let e : k ≡ s = g.here in
      rw e
      (on_slot n s g.live _ 0
      ∙ ap (λ (x : Interval). touching_below_lem I n q h (child_in_lem I n true s) + (one (touches q x) + touching_below_lem I n q h (child_in_lem I n false s))) (alike.own s g.live)
      ∙ rw (
        alike.child true s g.live,
        alike.child false s g.live,
        touching_below_law q h s (kid W true s) l g.left (omega arith),
        touching_below_law q h s (kid W false s) r g.right (omega arith),
      ) (touching_node W q l s r))
