-- Shape, order and hulls: a rotation at P, over which its child S comes up.
use mathlib.Core.Path.{◌≡◌, ◌∙◌}
use mathlib.Core.Bool.{Bool}
use mathlib.Core.List.{List, ◌∷◌}
use Prim.Native.Nat.{ℕ, ◌+◌, ◌<◌, ◌≤◌}
use native.Mathlib.Omega.{arith}
use Rattle.words.specs.Nodes.{kid, par, fix}
use Rattle.tree.specs.Tree.{Tree, slots, hit, occ}
use Rattle.tree.specs.Zipper.{bin, Frame, frame, plug, occs}
use Rattle.tree.proofs.Slots.{hit_same, occ_bin}
use Rattle.tree_edit.specs.Links.{root_after}
use Rattle.tree_edit.specs.Rotations.{rotate}
use Rattle.tree_edit.proofs.Links.{kept_rotate}
use Rattle.tree_edit.proofs.Beside.{HullsBy, by_same}
use Rattle.tree_edit.proofs.Upward.{by_fix}
use Rattle.tree_edit.proofs.Stand.{Stand, stand_up, stand_down, stand_fix}
use Rattle.tree_edit.proofs.Rotations.{stand_rotate}
use Rattle.tree_edit.proofs.Rows.{rotated_slots}
use Rattle.tree_in_rule.specs.InsertRepair.{rotated}
use Rattle.tree_in_rule.proofs.Partly.{Partly, open_partly, partly_same, partly_rotated}

-- A tree at a place, with its slots in tree order; hulls are right beside the way, and in the
-- subtrees that the new slot z is not in.
pub record Placed (W : List ℕ) (n z : ℕ) (base : List ℕ) (r ix p : ℕ) (c : List Frame) (t : Tree) : Type 0 where
  pub stand : Stand W n r ix p c t
  pub order : slots (plug c t) ≡ base
  pub hulls : HullsBy W c
  pub partly : Partly W z t
  pub has : 0 < occ z t

module _ (W : List ℕ) (n z : ℕ) (base : List ℕ) (r p : ℕ) (b : Bool) (P S : ℕ) (c : List Frame) (t C D : Tree)
    (h : Placed W n z base r P p c (bin b t P (bin b C S D))) where
  abbrev X : List ℕ
  X = rotate n W b P S

  abbrev u : Tree
  u = bin b (bin b t P C) S D

  one : (a : ℕ) → occs a c + (occ a t + hit a P + (occ a C + hit a S + occ a D)) ≤ 1
  one a = omega (arith, h.stand.once a, occ_bin a b t P (bin b C S D), occ_bin a b C S D)

  after_rotation : Stand X n (root_after n W r P S) S (par X S) c u
  after_rotation =
      let d = stand_down W n r b P (bin b C S D) c t p P h.stand in
      let e = stand_rotate W n r (kid W b P) b P S c C D t d in
      let f = stand_up X n (root_after n W r P S) b P C (frame b S D ∷ c) t P (kid W b P) e in
      stand_up X n (root_after n W r P S) b S D c (bin b t P C) (par X P) P f

  pub placed_rotated : Placed (rotated n W b P S) n z base (root_after n W r P S) S (par X S) c u
  unfolding rotated
  placed_rotated =
      let (x, y) = open_partly W z b t P (bin b C S D) h.partly in
      let (v, w) = open_partly W z b C S D y in
      let kept : (s : Tree) → Partly W z s → Partly X z s = λ s. partly_same W X z s (λ a o. kept_rotate n W b P S a) in
      record {
        stand = stand_fix (fix n X P) n (root_after n W r P S) S (par X S) c u S (stand_fix X n (root_after n W r P S) S (par X S) c u P after_rotation);
        order = rotated_slots b P S c t C D ∙ h.order;
        hulls = by_fix n (fix n X P) S c (omega (arith, one S, hit_same S))
            (by_fix n X P c (omega (arith, one P, hit_same P)) (by_same W X c (λ a o. kept_rotate n W b P S a) h.hulls));
        partly = partly_rotated X n z (par X S) S b P S t C D h.stand.small after_rotation.room (λ a. omega (arith, one a)) after_rotation.tree
            (kept t x) (kept C v) (kept D w);
        has = omega (arith, h.has, occ_bin z b t P (bin b C S D), occ_bin z b C S D, occ_bin z b (bin b t P C) S D, occ_bin z b t P C);
      }
