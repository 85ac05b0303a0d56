-- From a store that is ready for it, the vacated slot is cut off and the hulls are worked out up to
-- the root.
use mathlib.Core.Path.{◌≡◌, refl, sym, ap, ◌∙◌}
use mathlib.Core.Bool.{Bool, false}
use mathlib.Core.List.{List, ◌∷◌, ◌++◌}
use Prim.Native.Nat.{ℕ, ◌+◌, ◌<◌, ◌≤◌}
use native.Mathlib.Omega.{arith}
use lib.ListN.{length}
use Rattle.words.specs.Ix.{U, on_link}
use Rattle.words.specs.Nodes.{par, entry, Holds}
use Rattle.tree.specs.Tree.{Tree, slots, without, hit, occ, size, Shape, leaf, times}
use Rattle.tree.specs.Zipper.{Frame, plug, occs, Above}
use Rattle.tree.specs.Hulls.{Hulls}
use Rattle.tree.specs.RedBlack.{root_red, RedBlack}
use Rattle.tree.proofs.Slots.{hit_same, occ_plug, times_append, times_slots}
use Rattle.tree.proofs.Frames.{shape_live, unplug_shape, way_height}
use Rattle.tree.proofs.Sizes.{size_le}
use Rattle.tree.proofs.Balance.{height_32}
use Rattle.tree_edit.specs.Links.{redirected, remove_child_lem, redirect, root_after, fix_up}
use Rattle.tree_rm_rule.specs.Remove.{cut_words, cut_root, cut_words_with}
use Rattle.tree_edit.proofs.Carried.{kept_entry}
use Rattle.tree_edit.proofs.Links.{by_link, on_slot, on_none, length_redirect, kept_redirect}
use Rattle.tree_edit.proofs.Beside.{by_same}
use Rattle.tree_edit.proofs.Upward.{hulls_upward, entry_fix_up, length_fix_up, fix_up_stops}
use Rattle.tree_edit.proofs.Fits.{fits_plug}
use Rattle.tree_rm_rule.proofs.Loop.{Bare, Fixed}
use Rattle.tree_rm_rule.proofs.Rows.{without_at, around}
use Rattle.tree_rm_rule.proofs.Moves.{cut_way}

-- the words after the cut
pub cut_is : (hulls n : ℕ) (W : List ℕ) (g v : ℕ) → cut_words_with hulls n W g v ≡ fix_up n hulls (redirect n W g v U) g
unfolding cut_words_with remove_child_lem redirect
cut_is hulls n W g v =
    by_link n g (λ X. X ≡ fix_up n hulls (on_link n g (λ s. redirected W s v U) W) g) (λ s. fix_up n hulls (redirected W s v U) s) W
    (λ h. rw (on_slot n g h) refl)
    (λ h. rw (on_none n g h) (sym (fix_up_stops n hulls W g h)))

root_is : (n : ℕ) (W : List ℕ) (r v : ℕ) → cut_root n r (par W v) ≡ root_after n W r v U
unfolding cut_root root_after
root_is n W r v = refl

-- the tree without the slot v; W are the words before, X those after
pub record Cut (n v : ℕ) (base W X : List ℕ) (K : ℕ → Bool) (r : ℕ) : Type 0 where
  pub tree : Tree
  pub shape : Shape X n U r tree
  pub order : slots tree ≡ without v base
  pub once : (s : ℕ) → s < n → occ s tree + hit s v ≡ 1
  pub hulls : Hulls X tree
  pub red_black : RedBlack K tree
  pub top : root_red K tree ≡ false
  pub entries : (a : ℕ) → entry X a ≡ entry W a
  pub room : Holds X n

module _ (n v : ℕ) (base W : List ℕ) (K : ℕ → Bool) (r : ℕ) (small : n ≤ 65535) (lv : v < n) (count : (s : ℕ) → s < n → times s base ≡ 1)
    (h : Fixed n v base W K r) where
  abbrev q : List Frame
  q = h.q

  abbrev X : List ℕ
  X = redirect n W (par W v) v U

  pub two : (s : ℕ) → occs s q + hit s v ≤ 1
  two s = omega (arith, h.once s, occ_plug s h.q (Bare v))

  pub place : Above W n r q (par W v) v
  place =
      let (p, k, a, sh) = unplug_shape W n r h.q (Bare v) h.shape in
      rw (sh.here, ← sh.up) at a

  equal_blacks : RedBlack K (plug q leaf) × (root_red K (plug q leaf) ≡ false)
  equal_blacks = fits_plug K h.q leaf h.fits tt

  live : (s : ℕ) → 0 < occ s (plug q leaf) → s < n
  live s o = shape_live W n U r (plug h.q (Bare v)) s h.shape (omega (arith, occ_plug s h.q (Bare v), occ_plug s h.q leaf))

  -- 32 hulls suffice
  pub short : length q ≤ 32
  short =
      let z : size (plug q leaf) ≤ n = size_le n (plug q leaf) live (λ s. omega (arith, two s, occ_plug s q leaf)) in
      omega (arith, way_height q leaf, height_32 K (plug q leaf) equal_blacks.0 equal_blacks.1 (omega arith))

  all : (s : ℕ) → s < n → occ s (plug q leaf) + hit s v ≡ 1
  all s l =
      let e : occ s (plug h.q (Bare v)) ≡ 1 = sym (times_slots s (plug h.q (Bare v))) ∙ ap (λ (l : List ℕ). times s l) h.order ∙ count s l in
      omega (arith, occ_plug s h.q (Bare v), occ_plug s h.q leaf)

  slots_cut : slots (plug q leaf) ≡ without v base
  slots_cut =
      around h.q (λ A B f.
      let e : slots (plug h.q (Bare v)) ≡ A ++ (v ∷ B) = f (Bare v) in
      let c : times v (A ++ (v ∷ B)) ≡ 1 = ap (λ (l : List ℕ). times v l) (sym e ∙ h.order) ∙ count v lv in
      let c' = times_append v A (v ∷ B) in
      f leaf ∙ sym (without_at v A B (omega (arith, hit_same v)) (omega (arith, hit_same v))) ∙ ap (λ (l : List ℕ). without v l) (sym e ∙ h.order))

  pub cut : Cut n v base W (cut_words n W (par W v) v) K (cut_root n r (par W v))
  cut =
      let way : Above X n (root_after n W r v U) q (par W v) U =
      cut_way W n r q v small h.room lv (omega (arith, two v, hit_same v)) (λ s. omega (arith, two s)) place in
      let o = hulls_upward 32 X n (root_after n W r v U) q (par W v) U leaf small (rw length_redirect h.room) short
      (λ s. omega (arith, two s)) way refl tt (by_same W X q (λ a i. kept_redirect n W (par W v) v U a) h.hulls) in
      rw (cut_is 32, root_is n W r v) (record {
        tree = plug q leaf;
        shape = o.1;
        order = slots_cut;
        once = all;
        hulls = o.0;
        red_black = equal_blacks.0;
        top = equal_blacks.1;
        entries = λ a. entry_fix_up n 32 X (par W v) a ∙ kept_entry W X a (kept_redirect n W (par W v) v U a);
        room = rw (length_fix_up, length_redirect) h.room;
      })
