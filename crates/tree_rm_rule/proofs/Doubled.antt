-- The doubled test of `remove_at` is harmless: read as a test of both links it gives the same
-- store, value and pairs, and works out the same hulls.
-- The readings part only at a node with a right child alone. That child is red and bare, so either
-- way it is the slot that is cut off.
use mathlib.Core.Path.{◌≡◌, refl, sym, ◌∙◌}
use mathlib.Core.Logic.{◌≢◌}
use mathlib.Core.Bool.{Bool, true, false, cond, ◌||◌}
use mathlib.Core.List.{List, [], ◌∷◌}
use Prim.Native.Nat.{ℕ, ◌-◌, ◌<◌, ◌≤◌}
use native.Mathlib.Omega.{arith}
use lib.Dec.{eqb}
use borrow.Author.Tests.{eq-eqb, ne_eqb, lt-leb, le-leb}
use Rattle.words.specs.Ix.{U, gone}
use Rattle.words.specs.Nodes.{value, kid, par, swap, Holds, HoldsBits}
use Rattle.words.proofs.Nodes.{word_swap}
use Rattle.words.specs.declared.node.Field.TheVariants.{Child, Parent}
use Rattle.bitvec.specs.Colours.{red, paint}
use Rattle.bitvec.proofs.Bytes.{set_bit_idle}
use Rattle.tree.specs.Tree.{Tree, slots, occ, height, leaf, node}
use Rattle.tree.specs.Zipper.{Frame, plug}
use Rattle.tree.specs.Passes.{Passes}
use Rattle.tree.proofs.Slots.{hit_cases, hit_zero}
use Rattle.tree.proofs.Frames.{unplug_shape, find, way_height}
use Rattle.tree.proofs.Checked.{slot_once, tree_low}
use Rattle.tree_rm_rule.specs.Pairs.{none, moved_to, home, named, lower, upper, by_old_slot, moved}
use Rattle.tree_edit.specs.Links.{leftmost}
use Rattle.tree_rm_rule.specs.Remove.{vacated, vacated', exchanged, child, cut_words, cut_root, swap_remove_lem, Removed, remove_from_lem, remove_rule, remove_rule', finish_with, remove_from_with, remove_with, vacated_with}
use Rattle.tree_rm_rule.specs.Reach.{cut_hulls, restructure_hulls, vacate_hulls, remove_hulls_from, remove_hulls, remove_hulls'}
use Rattle.words.specs.declared.pair.Pair.{Pair}
use Rattle.words.specs.declared.pair.Pairs.{Pairs}
use Rattle.tree_edit.proofs.Links.{on_slot}
use Rattle.tree_rm_rule.proofs.Rows.{moved_to_here, moved_to_other, moved_to_self}
use Rattle.tree_edit.proofs.Beside.{hulls_by}
use Rattle.tree_rm_rule.proofs.Vacate.{leftmost_at}
use Rattle.tree_rm_rule.proofs.Steps.{emptied_slot_lem, emptied_none, above_slot, above_none, handed_slot, handed_none, restructure_red, restructure_child}
use Rattle.tree_rm_rule.proofs.Spot.{Spot, red_y, black_x, bare_y, at_y, child_y, x≢y}
use Rattle.tree_rm_rule.proofs.Loop.{Bare}
use Rattle.tree_rm_rule.proofs.PairLaws.{by_order}

-- a pair that is told comes before one that is not
module _ (p o : Pair) (told : p.old ≤ U) (only : p.old ≡ U → p ≡ none) where
  none_first : (lower none p ≡ p) × (upper none p ≡ none)
  none_first = by_order none p (λ i j. (i ≡ p) × (j ≡ none)) (λ h. (refl, refl)) (λ h. let e : p ≡ none = only (omega arith) in (sym e, e))

  none_last : (lower p none ≡ p) × (upper p none ≡ none)
  none_last = by_order p none (λ i j. (i ≡ p) × (j ≡ none)) (λ h. absurd (omega arith)) (λ h. (refl, refl))

  by_old_slot_none : by_old_slot none p o ≡ by_old_slot p none o
  unfolding by_old_slot
  by_old_slot_none = rw (none_first.0, none_first.1, none_last.0, none_last.1)

told_named : (a b : ℕ) → a < U → ((named a b).old ≤ U) × ((named a b).old ≡ U → named a b ≡ none)
unfolding named
told_named a b u = go (eqb a b)
  where
    go : (t : Bool) → ((cond t none (record { old = a; new = b })).old ≤ U)
        × ((cond t none (record { old = a; new = b })).old ≡ U → cond t none (record { old = a; new = b }) ≡ none)
    go true = (omega arith, λ e. refl)
    go false = (omega arith, λ e. absurd (omega arith))

-- the pairs by either reading
module _ (n z s y : ℕ) (small : n ≤ 65535) (lz : z < n) (ls : s < n) (ly : y < n) where
  stay_live : (a : ℕ) → a < n → moved_to y s a < n
  stay_live a u = hit_cases a y (λ e. rw (e, moved_to_here y s) ls) (λ z. rw (moved_to_other y s a (hit_zero a y z)) u)

  home_both : (a : ℕ) → a < n → home n z s s y a ≡ home n z s y U a
  unfolding home
  home_both a u =
      rw (
        emptied_slot_lem n s y ly,
        emptied_none n y U (omega arith),
        moved_to_self s a,
        moved_to_other U y (moved_to y s a) (omega (arith, stay_live a u)),
      ) refl

  or_both : (i j : Bool) → i || i || j ≡ i || j || false
  or_both true j = refl
  or_both false true = refl
  or_both false false = refl

  moved_both : y ≢ s → moved n z s s y ≡ moved n z s y U
  unfolding moved
  moved_both d =
      let a : Pair = named y (home n z s y U y) in
      let o : Pair = cond (eqb z s || eqb z y || false) none (named z (home n z s y U z)) in
      rw (eq-eqb s s refl, ne_eqb y s d, lt-leb n y ly, le-leb n U (omega arith), ne_eqb z U (omega arith), home_both y ly, home_both z lz, or_both)
      (by_old_slot_none a o (told_named y (home n z s y U y) (omega arith)).0 (told_named y (home n z s y U y) (omega arith)).1)

module _ (W C : List ℕ) (n r s y : ℕ) (ls : s < n) (ly : y < n) (small : n ≤ 65535)
    (ks : child W s ≡ y) (ky : child (swap W s y) y ≡ U) (up : par W y ≡ s) (bs : red C s ≡ false) (ry : red C y ≡ true) (ys : y ≢ s) where
  abbrev Z : List ℕ
  Z = cut_words n (swap W s y) s y

  -- the slot y is cut off
  abbrev cutting : List ℕ → Pairs → Removed
  cutting D p = record { store = swap_remove_lem n Z D (cut_root n r s) (n - 1) y; value = value Z y; pairs = p }

  from_s : remove_from_lem W C n r s s ≡ cutting (paint C y true) (moved n (n - 1) s s y)
  unfolding remove_from_with finish_with exchanged
  from_s =
      rw (
        eq-eqb s s refl,
        ks,
        restructure_child n W C r s y bs ly ry,
        emptied_slot_lem n s y ly,
        above_slot n W s y ly,
        handed_slot n W s y ly,
      ) refl

  from_y : remove_from_lem W C n r s y ≡ cutting C (moved n (n - 1) s y U)
  unfolding remove_from_with finish_with exchanged
  from_y =
      let X : List ℕ = swap W s y in
      rw (
        ne_eqb y s ys,
        ky,
        restructure_red n X C r y U ry,
        emptied_none n y U (omega arith),
        above_none n X y U (omega arith),
        handed_none n X y U (omega arith),
        word_swap W s y Parent y refl,
        up,
      ) refl

  either : remove_from_lem W C n r s s ≡ remove_from_lem W C n r s y
  either = from_s ∙ rw (set_bit_idle C y true ry, moved_both n (n - 1) s y small (omega arith) ls ly ys) (sym from_y)

  -- and the hulls
  hulls_s : remove_hulls_from W C n r s s ≡ cut_hulls n (swap W s y) s y
  unfolding remove_hulls_from vacate_hulls restructure_hulls exchanged
  hulls_s =
      rw (
        eq-eqb s s refl,
        ks,
        restructure_child n W C r s y bs ly ry,
        bs,
        on_slot n y ly (λ k. red C k) false,
        ry,
        emptied_slot_lem n s y ly,
        above_slot n W s y ly,
        handed_slot n W s y ly,
      ) refl

  hulls_y : remove_hulls_from W C n r s y ≡ cut_hulls n (swap W s y) s y
  unfolding remove_hulls_from vacate_hulls restructure_hulls exchanged
  hulls_y =
      let X : List ℕ = swap W s y in
      rw (
        ne_eqb y s ys,
        ky,
        restructure_red n X C r y U ry,
        ry,
        emptied_none n y U (omega arith),
        above_none n X y U (omega arith),
        handed_none n X y U (omega arith),
        word_swap W s y Parent y refl,
        up,
      ) refl

  either_hulls : remove_hulls_from W C n r s s ≡ remove_hulls_from W C n r s y
  either_hulls = hulls_s ∙ sym hulls_y

or_right : (i j : Bool) → j ≡ true → i || j ≡ true
or_right true j e = refl
or_right false j e = e

module _ (W C : List ℕ) (n r s : ℕ) (small : n ≤ 65535) (fit : Holds W n) (bits : HoldsBits C n) (ls : s < n) (h : Passes W C n r) where
  abbrev t : Tree
  t = h.tree

  most : (a : ℕ) → occ a t ≤ 1
  most = slot_once W C n r h

  tall : height t ≤ 32
  tall = tree_low W C n r h small

  -- what is the same for s as for its only child y is the same for both slots to vacate
  module _ {A : Type 0} (f : ℕ → A)
      (same : (y : ℕ) → y < n → child W s ≡ y → child (swap W s y) y ≡ U → par W y ≡ s → red C s ≡ false → red C y ≡ true → y ≢ s → f s ≡ f y) where
    -- a right child alone
    lone : (d : List Frame) (l : Tree) (y : ℕ) (l' : Tree) → t ≡ plug d (node leaf s (node l y l')) → f s ≡ f (vacated n W s)
    unfolding vacated_with child
    lone d l y l' e =
        let low : height (plug d (node leaf s (node l y l'))) ≤ 32 = rw e at tall in
        let i : Spot W C n r s false d (node l y l') = record {
          small = small;
          fit = fit;
          bits = bits;
          shape = rw e at h.shape;
          once = λ a. rw e at (most a);
          tall = low;
          red_black = rw e at h.red_black;
          top = rw e at h.top;
          hulls = (hulls_by W d (node leaf s (node l y l')) (rw e at h.hulls)).0;
        } in
        let at = at_y W C n r s false d (node l y l') i l y l' refl in
        let (el, er) = bare_y W C n r s false d (node l y l') i l y l' refl in
        let left : kid W true y ≡ U = rw el at at.left in
        let right : kid W false y ≡ U = rw er at at.right in
        let sy : s ≢ y = x≢y W C n r s false d (node l y l') i l y l' refl in
        let both : f s ≡ f y =
        same y at.live (child_y W C n r s false d (node l y l') i l y l' refl)
        (rw (word_swap W s y (Child true) y refl, word_swap W s y (Child false) y refl, left, right) refl) at.up
        (black_x W C n r s false d (node l y l') i l y l' refl) (red_y W C n r s false d (node l y l') i l y l' refl)
        (λ q. sy (sym q)) in
        leftmost_at W n small 32 s (kid W false s) l y l' at (omega (arith, way_height d (node leaf s (node l y l')))) (λ m i w rest f g o.
        let me : m ≡ y = sym (first_is m rest (rw (el, er) at o)) in
        rw (lt-leb n (kid W false s) (rw at.here at.live), g, me) both)
      where
        first_is : (m : ℕ) (rest : List ℕ) → slots (Bare y) ≡ m ∷ rest → y ≡ m
        first_is m rest e = cc

    either_way : f (vacated' n W s) ≡ f (vacated n W s)
    unfolding vacated_with vacated'
    either_way = find s t [] (omega (arith, h.once s ls)) go
      where
        go : (d : List Frame) (l r' : Tree) → t ≡ plug d (node l s r')
            → f (cond (gone n (kid W true s) || gone n (kid W false s)) s (leftmost n 32 W (kid W false s)))
            ≡ f (cond (gone n (kid W false s)) s (leftmost n 32 W (kid W false s)))
        go d l leaf e =
            let (p, k, a, sh) = unplug_shape W n r d (node l s leaf) (rw e at h.shape) in
            let q : gone n (kid W false s) ≡ true = le-leb n (kid W false s) (omega (arith, sh.right)) in
            rw (or_right (gone n (kid W true s)) (gone n (kid W false s)) q, q) refl
        go d (node i j k₀) (node l y l') e =
            let (p, k, a, sh) = unplug_shape W n r d (node (node i j k₀) s (node l y l')) (rw e at h.shape) in
            let q : gone n (kid W true s) ≡ false = lt-leb n (kid W true s) (rw sh.left.here sh.left.live) in
            rw q refl
        go d leaf (node l y l') e =
            let (p, k, a, sh) = unplug_shape W n r d (node leaf s (node l y l')) (rw e at h.shape) in
            rw (le-leb n (kid W true s) (omega (arith, sh.left))) (lone d l y l' e)

  pub harmless : remove_rule' W C n r s ≡ remove_rule W C n r s
  unfolding remove_with remove_rule'
  harmless = either_way (λ x. remove_from_lem W C n r s x) (λ y ly ks ky up bs ry ys. either W C n r s y ls ly small ks ky up bs ry ys)

  pub harmless_reach : remove_hulls' W C n r s ≡ remove_hulls W C n r s
  unfolding remove_hulls remove_hulls'
  harmless_reach = either_way (λ x. remove_hulls_from W C n r s x) (λ y ly ks ky up bs ry ys. either_hulls W C n r s y ls ly small ks ky up bs ry ys)
