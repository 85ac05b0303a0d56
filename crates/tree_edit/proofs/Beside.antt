-- Hulls: the trees beside the way up from a place keep their right hulls while entries change on
-- the way, and through a rotation.
use mathlib.Core.Path.{◌≡◌, refl}
use mathlib.Core.Bool.{Bool, true, false}
use mathlib.Core.List.{List, [], ◌∷◌, ◌++◌}
use Prim.Native.Nat.{ℕ, ◌+◌, ◌<◌}
use native.Mathlib.Omega.{arith}
use Rattle.tree.specs.Tree.{Tree, hit, occ}
use Rattle.tree.specs.Zipper.{bin, Frame, plug, occs, frame}
use Rattle.tree.specs.Hulls.{Hulls}
use Rattle.tree.proofs.Views.{view_keep, hulls_view}
use Rattle.tree_edit.proofs.Carried.{Kept, datum_carried}

-- the trees beside a way have right hulls
abbrev pub HullsBy : List ℕ → List Frame → Type 0
HullsBy W [] = Unit {0}
HullsBy W (frame b s far ∷ c) = Hulls W far × HullsBy W c

-- how often a slot stands in the trees beside a way, and how often on the way itself
abbrev pub beside : ℕ → List Frame → ℕ
beside a [] = 0
beside a (frame b s far ∷ c) = occ a far + beside a c

abbrev pub along : ℕ → List Frame → ℕ
along a [] = 0
along a (frame b s far ∷ c) = hit a s + along a c

pub occs_parts : (a : ℕ) (c : List Frame) → occs a c ≡ along a c + beside a c
occs_parts a [] = refl
occs_parts a (frame b s far ∷ c) = omega (arith, occs_parts a c)

pub along_append : (a : ℕ) (i c : List Frame) → along a (i ++ c) ≡ along a i + along a c
along_append a [] c = omega arith
along_append a (frame b s far ∷ i) c = omega (arith, along_append a i c)

module _ (W X : List ℕ) where
  pub hulls_same : (t : Tree) → ((a : ℕ) → 0 < occ a t → Kept W X a) → Hulls W t → Hulls X t
  hulls_same t f =
      hulls_view W (λ s. false) X (λ s. false) t t
      (view_keep W (λ s. false) X (λ s. false) t (λ a o. datum_carried W X (λ s. false) (λ s. false) a a (f a o) refl))

  pub by_same : (c : List Frame) → ((a : ℕ) → 0 < beside a c → Kept W X a) → HullsBy W c → HullsBy X c
  by_same [] f h = tt
  by_same (frame b s far ∷ c) f h = (hulls_same far (λ a o. f a (omega arith)) h.0, by_same c (λ a o. f a (omega arith)) h.1)

pub by_append : (W : List ℕ) (i c : List Frame) → HullsBy W i → HullsBy W c → HullsBy W (i ++ c)
by_append W [] c h g = g
by_append W (frame b s far ∷ i) c h g = (h.0, by_append W i c h.1 g)

pub by_left : (W : List ℕ) (i c : List Frame) → HullsBy W (i ++ c) → HullsBy W i
by_left W [] c h = tt
by_left W (frame b s far ∷ i) c h = (h.0, by_left W i c h.1)

pub by_right : (W : List ℕ) (i c : List Frame) → HullsBy W (i ++ c) → HullsBy W c
by_right W [] c h = h
by_right W (frame b s far ∷ i) c h = by_right W i c h.1

pub open_hull : (W : List ℕ) (b : Bool) (x : Tree) (s : ℕ) (y : Tree) → Hulls W (bin b x s y) → Hulls W x × Hulls W y
open_hull W true x s y h = (h.left, h.right)
open_hull W false x s y h = (h.right, h.left)

-- the trees beside the way, of a whole tree
pub hulls_by : (W : List ℕ) (c : List Frame) (t : Tree) → Hulls W (plug c t) → HullsBy W c × Hulls W t
hulls_by W [] t h = (tt, h)
hulls_by W (frame b s far ∷ c) t h =
    let (x, y) = hulls_by W c (bin b t s far) h in
    let (p, q) = open_hull W b t s far y in
    ((q, x), p)

-- a rotation: the parent P and then the sibling S are above the place
pub by_rotate : (W X : List ℕ) (b : Bool) (P S : ℕ) (C D : Tree) (i c : List Frame) → ((a : ℕ) → Kept W X a)
    → HullsBy W (i ++ (frame b P (bin b C S D) ∷ c)) → HullsBy X (i ++ (frame b P C ∷ frame b S D ∷ c))
by_rotate W X b P S C D i c f h =
    let (u, v) = by_right W i (frame b P (bin b C S D) ∷ c) h in
    let (x, y) = open_hull W b C S D u in
    by_same W X (i ++ (frame b P C ∷ frame b S D ∷ c)) (λ a o. f a)
    (by_append W i (frame b P C ∷ frame b S D ∷ c) (by_left W i (frame b P (bin b C S D) ∷ c) h) (x, (y, v)))
