-- Shape and slots at a place: the slot ix below p, the way up from it, and the tree at it.
use mathlib.Core.Bool.{Bool}
use mathlib.Core.List.{List, ◌∷◌}
use Prim.Native.Nat.{ℕ, ◌+◌, ◌≤◌}
use native.Mathlib.Omega.{arith}
use Rattle.words.specs.Nodes.{kid, par, fix, Holds}
use Rattle.words.proofs.Nodes.{length_fix}
use Rattle.tree.specs.Tree.{Tree, occ, Shape}
use Rattle.tree.specs.Zipper.{bin, Frame, occs, Above, frame}
use Rattle.tree.proofs.Slots.{occ_bin}
use Rattle.tree.proofs.Frames.{keep, above_keep, go_up, go_down}
use Rattle.tree_edit.proofs.Upward.{same_fix}

pub record Stand (W : List ℕ) (n r ix p : ℕ) (c : List Frame) (t : Tree) : Type 0 where
  pub small : n ≤ 65535
  pub room : Holds W n
  pub once : (s : ℕ) → occs s c + occ s t ≤ 1
  pub way : Above W n r c p ix
  pub tree : Shape W n p ix t

-- one step up, and one down
module _ (W : List ℕ) (n r : ℕ) (b : Bool) (s : ℕ) (far : Tree) (c : List Frame) (t : Tree) where
  pub stand_up : (p k : ℕ) → Stand W n r k p (frame b s far ∷ c) t → Stand W n r s (par W s) c (bin b t s far)
  stand_up p k h =
      let (a, q) = go_up W n r b s c p k t far h.way h.tree in
      record { small = h.small; room = h.room; once = λ a. omega (arith, h.once a, occ_bin a b t s far); way = a; tree = q }

  pub stand_down : (p k : ℕ) → Stand W n r k p c (bin b t s far) → Stand W n r (kid W b s) s (frame b s far ∷ c) t
  stand_down p k h =
      let (a, q) = go_down W n r b s c p k t far h.way h.tree in
      record { small = h.small; room = h.room; once = λ a. omega (arith, h.once a, occ_bin a b t s far); way = a; tree = q }

-- a hull that is written leaves it as it is
pub stand_fix : (W : List ℕ) (n r ix p : ℕ) (c : List Frame) (t : Tree) (s : ℕ) → Stand W n r ix p c t → Stand (fix n W s) n r ix p c t
stand_fix W n r ix p c t s h =
    record {
      small = h.small;
      room = rw length_fix h.room;
      once = h.once;
      way = above_keep W (fix n W s) n r c p ix (λ a o. same_fix n W s a) h.way;
      tree = keep W (fix n W s) n p ix t (λ a o. same_fix n W s a) h.tree;
    }
