-- Shape and slots: the close nephew Q comes up into the place of the sibling S. It is the rotation
-- of Rotations, seen from the distant nephew D.
use mathlib.Core.Path.{◌≡◌, refl, sym, ◌∙◌}
use mathlib.Core.Bool.{Bool, true, not}
use mathlib.Core.List.{List, ◌∷◌}
use Prim.Native.Nat.{ℕ, ◌<◌}
use native.Mathlib.Omega.{arith}
use lib.Dec.{eqb}
use Rattle.words.specs.Nodes.{kid, par}
use Rattle.tree.specs.Tree.{Tree}
use Rattle.tree.specs.Zipper.{bin, Frame, frame}
use Rattle.tree.proofs.Slots.{hit_same}
use Rattle.tree.proofs.Frames.{bin_flip}
use Rattle.tree_edit.specs.Links.{root_after}
use Rattle.tree_edit.specs.Rotations.{rotate_4}
use Rattle.tree_edit.proofs.Links.{on_slot, length_rotate_4}
use Rattle.tree_edit.proofs.Stand.{Stand, stand_up, stand_down}
use Rattle.tree_edit.proofs.Rotations.{side_of, Rotated, is_rotate_4, stand_rotated}

module _ (W : List ℕ) (n r ix : ℕ) (b : Bool) (P S : ℕ) (c : List Frame) (t X : Tree) (Q : ℕ) (Y D : Tree)
    (h : Stand W n r ix P (frame b P (bin b (bin b X Q Y) S D) ∷ c) t) where
  abbrev W₄ : List ℕ
  W₄ = rotate_4 n W b P S Q

  at_D : Stand W n r (kid W (not b) S) S (frame (not b) S (bin (not b) Y Q X) ∷ frame (not b) P t ∷ c) D
  at_D =
      let u : Stand W n r P (par W P) c (bin b t P (bin b (bin b X Q Y) S D)) = stand_up W n r b P (bin b (bin b X Q Y) S D) c t P ix h in
      let v : Stand W n r P (par W P) c (bin (not b) (bin (not b) D S (bin (not b) Y Q X)) P t) = simp bin_flip u in
      stand_down W n r (not b) S (bin (not b) Y Q X) (frame (not b) P t ∷ c) D P (kid W (not b) P)
      (stand_down W n r (not b) P t c (bin (not b) D S (bin (not b) Y Q X)) (par W P) P v)

  par_S : par W S ≡ P
  par_S = at_D.way.rest.at

  live_P : par W S < n
  live_P = rw par_S h.way.live

  side_S : eqb (kid W true (par W S)) S ≡ not b
  side_S =
      let d = at_D.way in
      rw par_S (side_of W n P S (not b) t h.small d.live (omega (arith, at_D.once S, hit_same S)) d.rest.here d.rest.far)

  rotate_Q : Rotated n W W₄ (not b) S Q
  rotate_Q =
      let z : Rotated n W (rotate_4 n W b (par W S) S Q) (not b) S Q =
      is_rotate_4 W n r (kid W (not b) S) (not b) S Q (frame (not b) P t ∷ c) Y X D at_D b refl live_P side_S in
      rw par_S at z

  root_is : root_after n W r S Q ≡ r
  unfolding root_after
  root_is = on_slot n (par W S) live_P (λ s. r) Q

  new_ix : kid W₄ b P ≡ ix
  new_ix = let e : kid W₄ b (par W S) ≡ kid W b (par W S) = rotate_Q.other live_P b side_S in rw par_S at e ∙ sym h.way.here

  pub stand_rotate_4 : Stand W₄ n r ix P (frame b P (bin b X Q (bin b Y S D)) ∷ c) t
  stand_rotate_4 =
      let a : Stand W₄ n r (kid W (not b) S) S (frame (not b) S Y ∷ frame (not b) Q X ∷ frame (not b) P t ∷ c) D =
      let z = stand_rotated W n r (kid W (not b) S) (not b) S Q (frame (not b) P t ∷ c) Y X D at_D W₄ rotate_Q (length_rotate_4 n W b P S Q) in rw root_is at z in
      let u = stand_up W₄ n r (not b) S Y (frame (not b) Q X ∷ frame (not b) P t ∷ c) D S (kid W (not b) S) a in
      let v = stand_up W₄ n r (not b) Q X (frame (not b) P t ∷ c) (bin (not b) D S Y) (par W₄ S) S u in
      let w = stand_up W₄ n r (not b) P t c (bin (not b) (bin (not b) D S Y) Q X) (par W₄ Q) Q v in
      let x : Stand W₄ n r P (par W₄ P) c (bin b t P (bin b X Q (bin b Y S D))) = simp bin_flip at w in
      let y = stand_down W₄ n r b P (bin b X Q (bin b Y S D)) c t (par W₄ P) P x in
      rw new_ix at y
