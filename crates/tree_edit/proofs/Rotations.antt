-- Shape and slots: the sibling S of a place comes up into the place of its parent P, and the words
-- that the repair writes hold the rotated tree.
use mathlib.Core.Path.{◌≡◌, subst, refl, sym, ◌∙◌}
use mathlib.Core.Logic.{◌≢◌}
use mathlib.Core.Bool.{Bool, true, false, not}
use mathlib.Core.List.{List, [], ◌∷◌}
use Prim.Native.Nat.{ℕ, ◌+◌, ◌<◌, ◌≤◌}
use native.Mathlib.Omega.{arith}
use lib.ListN.{length}
use lib.Dec.{eqb}
use borrow.Author.Tests.{eq-eqb, ne_eqb}
use Rattle.words.specs.Nodes.{kid, par, Has}
use Rattle.tree.specs.Tree.{Tree, hit, occ, Node, Shape}
use Rattle.tree.specs.Zipper.{bin, Frame, occs, Above, frame}
use Rattle.tree.proofs.Slots.{hit_same, hit_zero, apart, apart_way, occ_bin}
use Rattle.tree.proofs.Frames.{Same, shape_live, way_live, shape_root, off_link, open_bin, keep, move, above_keep}
use Rattle.tree_edit.specs.Links.{set_child_lem, root_after}
use Rattle.tree_edit.specs.Rotations.{rotate, rotate_2, rotate_4}
use Rattle.tree_edit.proofs.Links.{on_slot, on_none, not-not, length_set_child, kid_set_child, kid_set_child_not, kid_set_child_other, par_set_child, par_set_child_other, length_replaced, par_replaced, par_replaced_other, kid_replaced_other, kid_replaced, kid_replaced_not, length_rotate, length_rotate_2}
use Rattle.tree_edit.proofs.Stand.{Stand}

-- on which side of its parent a place is
pub side_of : (W : List ℕ) (n g P : ℕ) (b : Bool) (far : Tree) → n ≤ 65535 → P < n → occ P far ≡ 0
    → P ≡ kid W b g → Shape W n g (kid W (not b) g) far → eqb (kid W true g) P ≡ b
side_of W n g P true far m q z e h = eq-eqb (kid W true g) P (sym e)
side_of W n g P false far m q z e h = ne_eqb (kid W true g) P (λ x. absurd (no x))
  where
    no : kid W true g ≡ P → ⊥
    no x = let o : 0 < occ P far = shape_root W n g P far m q (rw x at h) in omega arith

-- the way up from P, after the words of P's parent lead to S
pub swing : (W X : List ℕ) (n r : ℕ) (c : List Frame) (P S : ℕ) → n ≤ 65535 → P < n → occs P c ≡ 0 → ((s : ℕ) → occs s c ≤ 1)
    → ((s : ℕ) → 0 < occs s c → s ≢ par W P → Same W X s)
    → (0 < occs (par W P) c → (par X (par W P) ≡ par W (par W P))
    × ((b : Bool) → eqb (kid W true (par W P)) P ≡ b → kid X b (par W P) ≡ S)
    × ((b : Bool) → eqb (kid W true (par W P)) P ≡ not b → kid X b (par W P) ≡ kid W b (par W P)))
    → Above W n r c (par W P) P → Above X n (root_after n W r P S) c (par W P) S
unfolding root_after
swing W X n r [] P S m q z one f g h = (h.0, sym (on_none n (par W P) (omega (arith, h.0)) (λ s. r) S))
swing W X n r (frame b a far ∷ c) P S m q z one f g h =
    let at : par W P ≡ a = h.at in
    let o = g (rw at (omega (arith, hit_same a))) in
    let zf : (occ a far ≡ 0) × (occs a c ≡ 0) = omega (arith, hit_same a, one a) in
    let sd : eqb (kid W true (par W P)) P ≡ b = rw at (side_of W n a P b far m q (omega arith) h.here h.far) in
    let ff : (s : ℕ) → 0 < occ s far → Same W X s = λ s y. f s (omega arith) (rw at (apart s a far zf.0 y)) in
    let fc : (s : ℕ) → 0 < occs s c → Same W X s = λ s y. f s (omega arith) (rw at (apart_way s a c zf.1 y)) in
    subst (λ (q : ℕ). Above X n q (frame b a far ∷ c) (par W P) S) (sym (on_slot n (par W P) (omega (arith, h.live)) (λ (s : ℕ). r) S)) (record {
      at = at;
      here = sym (rw at at (o.1 b sd));
      live = h.live;
      far = rw (rw at at (o.2 (not b) (sd ∙ sym (not-not b)))) (keep W X n a (kid W (not b) a) far ff h.far);
      rest = rw (rw at at o.0) (above_keep W X n r c (par W a) a fc h.rest);
    })

-- no slot of a tree below is the parent of the place
pub off_parent : (W : List ℕ) (n r : ℕ) (c : List Frame) (g P s : ℕ) → n ≤ 65535 → Above W n r c g P → s < n → occs s c ≡ 0 → s ≢ g
off_parent W n r [] g P s m h q z e = omega (arith, h.0)
off_parent W n r (frame b a far ∷ c) g P s m h q z e =
    let x : s ≡ a = e ∙ h.at in
    let y : occs a (frame b a far ∷ c) ≡ 0 = subst (λ (v : ℕ). occs v (frame b a far ∷ c) ≡ 0) x z in
    omega (arith, hit_same a)

-- The words X come from W by this rotation: the sibling S, on the far side of P, goes up over P,
-- and S's near child goes to P.
pub record Rotated (n : ℕ) (W X : List ℕ) (b : Bool) (P S : ℕ) : Type 0 where
  pub kids : (d : Bool) (s : ℕ) → s ≢ P → s ≢ S → s ≢ par W P → kid X d s ≡ kid W d s
  pub pars : (s : ℕ) → s ≢ P → s ≢ S → s ≢ kid W b S → par X s ≡ par W s
  pub near_P : kid X b P ≡ kid W b P
  pub far_P : kid X (not b) P ≡ kid W b S
  pub par_P : par X P ≡ S
  pub near_S : kid X b S ≡ P
  pub far_S : kid X (not b) S ≡ kid W (not b) S
  pub par_S : par X S ≡ par W P
  pub par_c : kid W b S < n → par X (kid W b S) ≡ P
  pub to_S : par W P < n → (d : Bool) → eqb (kid W true (par W P)) P ≡ d → kid X d (par W P) ≡ S
  pub other : par W P < n → (d : Bool) → eqb (kid W true (par W P)) P ≡ not d → kid X d (par W P) ≡ kid W d (par W P)

module _ (W : List ℕ) (n r ix : ℕ) (b : Bool) (P S : ℕ) (c : List Frame) (C D t : Tree)
    (h : Stand W n r ix P (frame b P (bin b C S D) ∷ c) t) where
  sib : Node W n P (kid W (not b) P) S (Shape W n S (kid W b S) C) (Shape W n S (kid W (not b) S) D)
  sib = open_bin W n P (kid W (not b) P) b C S D h.way.far

  one : (s : ℕ) → hit s P + (occ s C + hit s S + occ s D) + occs s c + occ s t ≤ 1
  one s = omega (arith, h.once s, occ_bin s b C S D)

  at_P : (hit P S ≡ 0) × (occ P C ≡ 0) × (occ P D ≡ 0) × (occs P c ≡ 0) × (occ P t ≡ 0)
  at_P = omega (arith, one P, hit_same P)

  at_S : (hit S P ≡ 0) × (occ S C ≡ 0) × (occ S D ≡ 0) × (occs S c ≡ 0) × (occ S t ≡ 0)
  at_S = omega (arith, one S, hit_same S)

  not_g : (s : ℕ) → s < n → occs s c ≡ 0 → s ≢ par W P
  not_g s = off_parent W n r c (par W P) P s h.small h.way.rest

  not_c : (s : ℕ) → s < n → occ s C ≡ 0 → s ≢ kid W b S
  not_c s = off_link W n S (kid W b S) C s h.small sib.left

  module _ (X : List ℕ) (v : Rotated n W X b P S) where
    same : (s : ℕ) → s ≢ P → s ≢ S → s ≢ par W P → s ≢ kid W b S → Same W X s
    same s p q g x = (λ d. v.kids d s p q g, v.pars s p q x)

    same_at : (s : ℕ) → s < n → hit s P ≡ 0 → hit s S ≡ 0 → occs s c ≡ 0 → occ s C ≡ 0 → Same W X s
    same_at s q zp zs zc zC = same s (hit_zero s P zp) (hit_zero s S zs) (not_g s q zc) (not_c s q zC)

    rotated_below : Shape X n P ix t
    rotated_below =
        keep W X n P ix t
        (λ s o. same_at s (shape_live W n P ix t s h.tree o) (omega (arith, one s)) (omega (arith, one s)) (omega (arith, one s)) (omega (arith, one s)))
        h.tree

    new_D : Shape X n S (kid W (not b) S) D
    new_D =
        keep W X n S (kid W (not b) S) D
        (λ s o. same_at s (shape_live W n S (kid W (not b) S) D s sib.right o) (omega (arith, one s)) (omega (arith, one s)) (omega (arith, one s)) (omega (arith, one s)))
        sib.right

    new_C : Shape X n P (kid W b S) C
    new_C =
        move W X n S P (kid W b S) C
        (λ s o x. same s (hit_zero s P (omega (arith, one s))) (hit_zero s S (omega (arith, one s)))
        (not_g s (shape_live W n S (kid W b S) C s sib.left o) (omega (arith, one s))) x)
        (λ o. let q : kid W b S < n = shape_live W n S (kid W b S) C (kid W b S) sib.left o in (
          λ d. v.kids d (kid W b S) (hit_zero _ P (omega (arith, one (kid W b S)))) (hit_zero _ S (omega (arith, one (kid W b S))))
              (not_g (kid W b S) q (omega (arith, one (kid W b S)))),
          v.par_c (omega arith),
        ))
        (omega (arith, one (kid W b S)))
        sib.left

    new_way : Above X n (root_after n W r P S) c (par W P) S
    new_way =
        swing W X n r c P S h.small h.way.live at_P.3 (λ s. omega (arith, one s))
        (λ s o x. same s (hit_zero s P (omega (arith, one s))) (hit_zero s S (omega (arith, one s))) x
        (not_c s (way_live W n r c (par W P) P s h.way.rest o) (omega (arith, one s))))
        (λ o. let q : par W P < n = way_live W n r c (par W P) P (par W P) h.way.rest o in (
          v.pars (par W P) (hit_zero _ P (omega (arith, one (par W P)))) (hit_zero _ S (omega (arith, one (par W P))))
              (not_c (par W P) q (omega (arith, one (par W P)))),
          v.to_S (omega arith),
          v.other (omega arith),
        ))
        h.way.rest

    -- the rotated tree, seen from the same place
    rotated_way : Above X n (root_after n W r P S) (frame b P C ∷ frame b S D ∷ c) P ix
    rotated_way =
        record {
          at = refl;
          here = h.way.here ∙ sym v.near_P;
          live = h.way.live;
          far = rw v.far_P new_C;
          rest = record {
            at = v.par_P;
            here = sym v.near_S;
            live = sib.live;
            far = rw v.far_S new_D;
            rest = rw v.par_S new_way;
          };
        }

  -- the slots that are written differ, and are within the words
  abbrev g : ℕ
  g = par W P

  abbrev k : ℕ
  k = kid W b S

  fit : (s : ℕ) → s < n → Has W s
  fit s u = omega (arith, h.room)

  live_P : P < n
  live_P = h.way.live

  P≢S : P ≢ S
  P≢S = hit_zero P S at_P.0

  S≢P : S ≢ P
  S≢P = hit_zero S P at_S.0

  P≢g : P ≢ g
  P≢g = not_g P live_P at_P.3

  S≢g : S ≢ g
  S≢g = not_g S sib.live at_S.3

  P≢k : P ≢ k
  P≢k = not_c P live_P at_P.1

  S≢k : S ≢ k
  S≢k = not_c S sib.live at_S.1

  g≢P : g ≢ P
  g≢P e = P≢g (sym e)

  g≢S : g ≢ S
  g≢S e = S≢g (sym e)

  k≢P : k ≢ P
  k≢P e = P≢k (sym e)

  k≢S : k ≢ S
  k≢S e = S≢k (sym e)

  -- the three ways in which the repair writes a rotation
  is_rotate : Rotated n W (rotate n W b P S) b P S
  unfolding rotate
  is_rotate =
      record {
        kids = λ d s p q i. simp (kid_set_child_other, kid_replaced_other);
        pars = λ s p q i. simp (par_set_child_other, par_replaced_other);
        near_P = kid_set_child_other n _ S P b b P P≢S ∙ kid_set_child_not n _ P _ (not b) b refl ∙ kid_replaced_other n W P S b P P≢g;
        far_P = kid_set_child_other n _ S P b (not b) P P≢S ∙ kid_set_child n _ P _ (not b) (rw length_replaced (fit P live_P));
        par_P = par_set_child n _ S P b live_P (rw (length_set_child, length_replaced) (fit P live_P));
        near_S = kid_set_child n _ S P b (rw (length_set_child, length_replaced) (fit S sib.live));
        far_S = kid_set_child_not n _ S P b (not b) (sym (not-not b)) ∙ kid_set_child_other n _ P _ (not b) (not b) S S≢P
            ∙ kid_replaced_other n W P S (not b) S S≢g;
        par_S = par_set_child_other n _ S P b S S≢P ∙ par_set_child_other n _ P k (not b) S S≢k ∙ par_replaced n W P S (fit S sib.live);
        par_c = λ u. par_set_child_other n _ S P b k k≢P ∙ par_set_child n _ P _ (not b) u (rw length_replaced (fit k u));
        to_S = λ u d e. kid_set_child_other n _ S P b d g g≢S ∙ kid_set_child_other n _ P _ (not b) d g g≢P ∙ kid_replaced n W P S d u (fit g u) e;
        other = λ u d e. kid_set_child_other n _ S P b d g g≢S ∙ kid_set_child_other n _ P _ (not b) d g g≢P ∙ kid_replaced_not n W P S d e;
      }

  is_rotate_2 : Rotated n W (rotate_2 n W b P S) b P S
  unfolding rotate_2
  is_rotate_2 =
      record {
        kids = λ d s p q i. simp (kid_set_child_other, kid_replaced_other);
        pars = λ s p q i. simp (par_set_child_other, par_replaced_other);
        near_P = kid_set_child_not n _ P _ (not b) b refl ∙ kid_set_child_other n _ S P b b P P≢S ∙ kid_replaced_other n W P S b P P≢g;
        far_P = kid_set_child n _ P _ (not b) (rw (length_set_child, length_replaced) (fit P live_P));
        par_P = par_set_child_other n _ P _ (not b) P P≢k ∙ par_set_child n _ S P b live_P (rw length_replaced (fit P live_P));
        near_S = kid_set_child_other n _ P _ (not b) b S S≢P ∙ kid_set_child n _ S P b (rw length_replaced (fit S sib.live));
        far_S = kid_set_child_other n _ P _ (not b) (not b) S S≢P ∙ kid_set_child_not n _ S P b (not b) (sym (not-not b))
            ∙ kid_replaced_other n W P S (not b) S S≢g;
        par_S = par_set_child_other n _ P k (not b) S S≢k ∙ par_set_child_other n _ S P b S S≢P ∙ par_replaced n W P S (fit S sib.live);
        par_c = λ u. par_set_child n _ P _ (not b) u (rw (length_set_child, length_replaced) (fit k u));
        to_S = λ u d e. kid_set_child_other n _ P _ (not b) d g g≢P ∙ kid_set_child_other n _ S P b d g g≢S ∙ kid_replaced n W P S d u (fit g u) e;
        other = λ u d e. kid_set_child_other n _ P _ (not b) d g g≢P ∙ kid_set_child_other n _ S P b d g g≢S ∙ kid_replaced_not n W P S d e;
      }

  -- the fourth case, where P too stands on the side b of its parent
  rotate_4_is : (d : Bool) → b ≡ not d → rotate_4 n W d g P S ≡ set_child_lem n (set_child_lem n (set_child_lem n W P k (not b)) S P b) g S b
  unfolding rotate_4
  rotate_4_is d e = rw (e, not-not)

  pub is_rotate_4 : (d : Bool) → b ≡ not d → g < n → eqb (kid W true g) P ≡ b → Rotated n W (rotate_4 n W d g P S) b P S
  is_rotate_4 d e ug eg =
      rw (rotate_4_is d e) (record {
        kids = λ j s p q i. simp kid_set_child_other;
        pars = λ s p q i. simp par_set_child_other;
        near_P = kid_set_child_other n _ g S b b P P≢g ∙ kid_set_child_other n _ S P b b P P≢S ∙ kid_set_child_not n W P _ (not b) b refl;
        far_P = kid_set_child_other n _ g S b (not b) P P≢g ∙ kid_set_child_other n _ S P b (not b) P P≢S ∙ kid_set_child n W P _ (not b) (fit P live_P);
        par_P = par_set_child_other n _ g S b P P≢S ∙ par_set_child n _ S P b live_P (rw length_set_child (fit P live_P));
        near_S = kid_set_child_other n _ g S b b S S≢g ∙ kid_set_child n _ S P b (rw length_set_child (fit S sib.live));
        far_S = kid_set_child_other n _ g S b (not b) S S≢g ∙ kid_set_child_not n _ S P b (not b) (sym (not-not b))
            ∙ kid_set_child_other n W P _ (not b) (not b) S S≢P;
        par_S = par_set_child n _ g S b sib.live (rw (length_set_child, length_set_child) (fit S sib.live));
        par_c = λ u. par_set_child_other n _ g S b k k≢S ∙ par_set_child_other n _ S P b k k≢P ∙ par_set_child n W P _ (not b) u (fit k u);
        to_S = λ u j q. let z : j ≡ b = sym q ∙ eg in rw z (kid_set_child n _ g S b (rw (length_set_child, length_set_child) (fit g u)));
        other = λ u j q. kid_set_child_not n _ g S b j (sym eg ∙ q) ∙ kid_set_child_other n _ S P b j g g≢S ∙ kid_set_child_other n W P _ (not b) j g g≢P;
      })

  -- so the place stands in the rotated tree
  module _ (X : List ℕ) (v : Rotated n W X b P S) (e : length X ≡ length W) where
    pub stand_rotated : Stand X n (root_after n W r P S) ix P (frame b P C ∷ frame b S D ∷ c) t
    stand_rotated =
        record {
          small = h.small;
          room = rw e h.room;
          once = λ s. omega (arith, one s);
          way = rotated_way X v;
          tree = rotated_below X v;
        }

  pub stand_rotate : Stand (rotate n W b P S) n (root_after n W r P S) ix P (frame b P C ∷ frame b S D ∷ c) t
  stand_rotate = stand_rotated (rotate n W b P S) is_rotate (length_rotate n W b P S)

  pub stand_rotate_2 : Stand (rotate_2 n W b P S) n (root_after n W r P S) ix P (frame b P C ∷ frame b S D ∷ c) t
  stand_rotate_2 = stand_rotated (rotate_2 n W b P S) is_rotate_2 (length_rotate_2 n W b P S)
