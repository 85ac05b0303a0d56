-- Hulls while the repair runs: those of the subtrees that the new slot z is not in are right. A
-- rotation keeps that, by working out two hulls.
use mathlib.Core.Path.{◌≡◌}
use mathlib.Core.Bool.{Bool, true, false}
use mathlib.Core.List.{List, [], ◌∷◌}
use Prim.Native.Nat.{ℕ, ◌+◌, ◌<◌, ◌≤◌}
use native.Mathlib.Omega.{arith}
use Rattle.words.specs.Nodes.{kid, fix, Holds}
use Rattle.words.proofs.Nodes.{length_fix, word_fix_slot}
use Rattle.tree.specs.Tree.{Tree, leaf, node, hit, occ, Shape}
use Rattle.tree.specs.Zipper.{bin, Frame, frame, plug, occs}
use Rattle.tree.specs.Hulls.{Hulls}
use Rattle.tree.proofs.Slots.{hit_same, apart, occ_bin}
use Rattle.tree.proofs.Frames.{open_bin, keep}
use Rattle.tree_edit.proofs.Carried.{Kept}
use Rattle.tree_edit.proofs.Beside.{HullsBy, hulls_same}
use Rattle.tree_edit.proofs.Upward.{same_fix, fix_bin}

abbrev pub Partly : List ℕ → ℕ → Tree → Type 0
Partly W z leaf = Unit {0}
Partly W z (node l s r) = (occ z (node l s r) ≡ 0 → Hulls W (node l s r)) × Partly W z l × Partly W z r

module _ (W : List ℕ) (z : ℕ) where
  pub partly_hulls : (t : Tree) → Partly W z t → occ z t ≡ 0 → Hulls W t
  partly_hulls leaf h o = tt
  partly_hulls (node l s r) h o = h.0 o

  pub hulls_partly : (t : Tree) → Hulls W t → Partly W z t
  hulls_partly leaf h = tt
  hulls_partly (node l s r) h = (λ o. h, hulls_partly l h.left, hulls_partly r h.right)

  -- by side
  pub open_partly : (b : Bool) (x : Tree) (s : ℕ) (y : Tree) → Partly W z (bin b x s y) → Partly W z x × Partly W z y
  open_partly true x s y h = (h.1, h.2)
  open_partly false x s y h = (h.2, h.1)

  pub make_partly : (b : Bool) (x : Tree) (s : ℕ) (y : Tree) → (occ z (bin b x s y) ≡ 0 → Hulls W (bin b x s y))
      → Partly W z x → Partly W z y → Partly W z (bin b x s y)
  make_partly true x s y f p q = (f, p, q)
  make_partly false x s y f p q = (f, q, p)

  -- the trees beside the way from a tree that has z
  pub plug_partly : (c : List Frame) (t : Tree) → 0 < occ z t → Partly W z t → HullsBy W c → Partly W z (plug c t)
  plug_partly [] t o h g = h
  plug_partly (frame b s far ∷ c) t o h g =
      let i = occ_bin z b t s far in
      plug_partly c (bin b t s far) (omega arith)
      (make_partly b t s far (λ e. absurd (omega arith)) h (hulls_partly far g.0))
      g.1

  -- and at the way from z itself
  pub partly_way : (c : List Frame) (t : Tree) → ((a : ℕ) → occs a c + occ a t ≤ 1) → 0 < occ z t → Partly W z (plug c t) → HullsBy W c × Partly W z t
  partly_way [] t one o h = (tt, h)
  partly_way (frame b s far ∷ c) t one o h =
      let (g, k) = partly_way c (bin b t s far) (λ a. omega (arith, one a, occ_bin a b t s far)) (omega (arith, occ_bin z b t s far)) h in
      let (p, q) = open_partly b t s far k in
      ((partly_hulls far q (omega (arith, one z)), g), p)

-- words that keep the entries and hulls of a tree
pub partly_same : (W X : List ℕ) (z : ℕ) (t : Tree) → ((a : ℕ) → 0 < occ a t → Kept W X a) → Partly W z t → Partly X z t
partly_same W X z leaf f h = tt
partly_same W X z (node l s r) f h = (
  λ o. hulls_same W X (node l s r) f (h.0 o),
  partly_same W X z l (λ a o. f a (omega arith)) h.1,
  partly_same W X z r (λ a o. f a (omega arith)) h.2,
)

pub partly_fix : (n : ℕ) (W : List ℕ) (z s : ℕ) (t : Tree) → occ s t ≡ 0 → Partly W z t → Partly (fix n W s) z t
partly_fix n W z s t o = partly_same W (fix n W s) z t (λ a i g q. word_fix_slot n W s g a (apart a s t o i))

-- S came up over P by a rotation, and the hulls of P and then of S are worked out: X are the
-- rotated words
module _ (X : List ℕ) (n z p k : ℕ) (b : Bool) (P S : ℕ) (t C D : Tree) (small : n ≤ 65535) (room : Holds X n)
    (one : (a : ℕ) → occ a t + hit a P + occ a C + hit a S + occ a D ≤ 1) (sh : Shape X n p k (bin b (bin b t P C) S D)) where
  abbrev Y : List ℕ
  Y = fix n X P

  shape_Y : Shape Y n p k (bin b (bin b t P C) S D)
  shape_Y = keep X Y n p k (bin b (bin b t P C) S D) (λ a o. same_fix n X P a) sh

  no_P : (u : Tree) → ((a : ℕ) → occ a u ≤ occ a t + occ a C + occ a D) → occ P u ≡ 0
  no_P u f = omega (arith, f P, one P, hit_same P)

  no_S : occ S (bin b t P C) ≡ 0
  no_S = omega (arith, occ_bin S b t P C, one S, hit_same S)

  pub partly_rotated : Partly X z t → Partly X z C → Partly X z D → Partly (fix n Y S) z (bin b (bin b t P C) S D)
  partly_rotated pt pc pd =
      let yt : Partly Y z t = partly_fix n X z P t (no_P t (λ a. omega arith)) pt in
      let yc : Partly Y z C = partly_fix n X z P C (no_P C (λ a. omega arith)) pc in
      let yd : Partly Y z D = partly_fix n X z P D (no_P D (λ a. omega arith)) pd in
      let low : occ z (bin b t P C) ≡ 0 → Hulls Y (bin b t P C) =
      λ o. fix_bin X n small room S (kid X b S) b t P C (no_P t (λ a. omega arith)) (no_P C (λ a. omega arith))
      (open_bin X n p k b (bin b t P C) S D sh).left
      (partly_hulls X z t pt (omega (arith, occ_bin z b t P C))) (partly_hulls X z C pc (omega (arith, occ_bin z b t P C))) in
      let py : Partly Y z (bin b t P C) = make_partly Y z b t P C low yt yc in
      make_partly (fix n Y S) z b (bin b t P C) S D
      (λ o. fix_bin Y n small (rw length_fix room) p k b (bin b t P C) S D no_S (omega (arith, one S, hit_same S)) shape_Y
      (partly_hulls Y z (bin b t P C) py (omega (arith, occ_bin z b (bin b t P C) S D)))
      (partly_hulls Y z D yd (omega (arith, occ_bin z b (bin b t P C) S D))))
      (partly_fix n Y z S (bin b t P C) no_S py)
      (partly_fix n Y z S D (omega (arith, one S, hit_same S)) yd)
