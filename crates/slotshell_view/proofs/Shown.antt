-- What is shown of a map, read from the image of a store that passes, is the store's own.
use mathlib.Core.Path.{◌≡◌, refl, sym, ap, ◌∙◌}
use mathlib.Core.Bool.{false, cond}
use mathlib.Core.List.{List}
use Prim.Native.Nat.{ℕ, ◌<◌, ◌≤◌}
use native.Mathlib.Omega.{arith}
use lib.ListN.{length}
use borrow.Author.Tests.{lt-ltb, le-ltb, le-leb}
use Rattle.words.specs.Ix.{U}
use Rattle.words.specs.Nodes.{hull, HoldsBits}
use Rattle.tree.specs.Tree.{Tree, leaf, node, size, height, Shape}
use Rattle.tree.specs.Passes.{Passes}
use Rattle.tree.proofs.Checked.{tree_size, tree_low}
use Rattle.tree.proofs.Frames.{way_height}
use Rattle.iter.specs.declared.rules.Query.{Query}
use Rattle.iter.specs.declared.rules.Query.TheVariants.{Overlap, Ruled, Exact}
use Rattle.iter_laws.specs.Entered.{entered, touching}
use Rattle.iter_laws.proofs.Later.{size_plug}
use Rattle.iter_laws.proofs.Walks.{focus}
use Rattle.image_rule.specs.Layout.{image_length_lem}
use Rattle.image_rule.specs.Written.{image_of}
use Rattle.image_rule.proofs.Reread.{Fit, length_image, entry_reread, child_reread, parent_reread, red_reread}
use Rattle.slotshell_view.specs.View.{shows, hull_in_lem, trail, trail_below_lem, trail_shown}
use Rattle.slotshell_view.specs.Shown.{Shown, noticed}
use Rattle.slotshell_view.proofs.Hulls.{Alike, hull_at_lem}
use Rattle.slotshell_view.proofs.Turns.{entry_rule, turns}
use Rattle.slotshell_view.proofs.Trails.{onward, Room, onward_none, noticed_is, entered_few, trail_below_law}
use Rattle.slotshell_view.proofs.Counts.{height_below_law, touching_below_law}

module _ (W C : List ℕ) (n r : ℕ) (P : Passes W C n r) (fit : Fit W n r) (bits : HoldsBits C n) where
  abbrev I : List ℕ
  I = image_of n r W C

  -- what is shown of a slot below the count is read
  at_slot : {A : Type 0} (s : ℕ) → s < n → (x y z : A) → x ≡ y → cond (shows I n s) x z ≡ y
  at_slot s q x y z e =
      rw (lt-ltb s n q, le-leb n 65535 fit.few, le-leb (image_length_lem n) (length I) (omega (arith, length_image W C n r bits))) e

  -- and so of a tree; of none there is nothing to read
  at_tree : {A : Type 0} (p k : ℕ) (t : Tree) → Shape W n p k t → (x z : A) (f : Tree → A) → x ≡ f t → z ≡ f leaf → cond (shows I n k) x z ≡ f t
  at_tree p k leaf g x z f e d = rw (le-ltb k n (omega (arith, fit.few))) d
  at_tree p k (node l s r) g x z f e d = at_slot k (omega (arith, g.live, g.here)) x (f (node l s r)) z e

  alike : Alike I W n
  alike = record {
    few = fit.few;
    child = child_reread W C n r bits fit;
    own = λ s q t. record { start = (entry_reread W C n r bits fit s q t).start; end = (entry_reread W C n r bits fit s q t).end };
  }

  low : height P.tree ≤ 32
  low = tree_low W C n r P fit.few

  hulls : (s : ℕ) → s < n → hull_in_lem I n s ≡ hull W s
  hulls s q = hull_at_lem I W n alike U r P.tree P.shape P.hulls low s (omega (arith, P.once s q))

  -- the trail from the root of a subtree on
  trails : (q : Query) (p k : ℕ) (t : Tree) (out : List ℕ) → Shape W n p k t → height t ≤ 32 → size t ≤ n → n ≤ length out
      → noticed (trail_shown I n q k out) ≡ entered (entry_rule W q) t
  trails q p k t out g i j room =
      ap noticed
      (at_tree p k t g (trail_below_lem I n q 32 k (trail out 0)) (trail out 0) (λ u. onward (trail out 0) (entered (entry_rule W q) u))
      (trail_below_law I W n alike hulls q 32 p k t (trail out 0) g i few) (sym (onward_none (trail out 0))))
      ∙ noticed_is (entered (entry_rule W q) t) out few
    where
      few : Room (trail out 0) (entered (entry_rule W q) t)
      few = omega (arith, entered_few (entry_rule W q) t)

  pub shown : Shown I W C n r P.tree
  shown = record {
    entry_is = λ s q. at_slot s q _ _ _ (entry_reread W C n r bits fit s q);
    child_is = λ b s q. at_slot s q _ _ U (child_reread W C n r bits fit b s q);
    parent_is = λ s q. at_slot s q _ _ U (parent_reread W C n r bits fit s q);
    red_is = λ s q. at_slot s q _ _ false (red_reread W C n r bits s q);
    hull_is = λ s q. at_slot s q _ _ _ (hulls s q);
    goes_is = λ q b s i. at_slot s i _ _ false (turns I W n alike hulls q b s i);
    overlap_trail = λ q out. trails (Overlap q) U r P.tree out P.shape low (omega (arith, tree_size W C n r P));
    ruled_trail = λ k q out. trails (Ruled k q) U r P.tree out P.shape low (omega (arith, tree_size W C n r P));
    exact_trail = λ x way left k right out e room.
        focus W n U r way (node left k right) (rw e P.shape) (λ p j g _.
        trails (Exact x) p k (node left k right) out (rw g.here at g) (omega (arith, low, way_height way (node left k right), ap height e))
        (omega (arith, tree_size W C n r P, size_plug way (node left k right), ap size e)) room);
    none_trail = λ q out. rw (le-ltb U n (omega (arith, fit.few)));
    height_is = at_tree U r P.tree P.shape _ 0 height (height_below_law I W n alike 32 U r P.tree P.shape low) refl;
    touching_is = λ q. at_tree U r P.tree P.shape _ 0 (touching W q) (touching_below_law I W n alike q 32 U r P.tree P.shape low) refl;
  }
