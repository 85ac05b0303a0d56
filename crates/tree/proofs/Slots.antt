-- How often a slot stands in a tree, in a list, on a way up.
use mathlib.Core.Path.{◌≡◌, refl}
use mathlib.Core.Logic.{◌≢◌}
use mathlib.Core.Bool.{Bool, true, false}
use mathlib.Core.List.{List, [], ◌∷◌, ◌++◌}
use Prim.Native.Nat.{ℕ, ◌+◌, ◌<◌, ◌≤◌}
use native.Mathlib.Omega.{arith}
use lib.Dec.{eqb}
use borrow.Author.Tests.{eq-eqb, ne_eqb, eqb-true, eqb-false}
use Rattle.tree.specs.Tree.{Tree, leaf, node, slots, hit, occ, times}
use Rattle.tree.specs.Zipper.{bin, Frame, frame, plug, occs}
use Rattle.tree.proofs.Cases.{compare}

pub hit_same : (s : ℕ) → hit s s ≡ 1
unfolding hit
hit_same s = rw (eq-eqb s s refl) refl

pub hit_ne : (s a : ℕ) → s ≢ a → hit s a ≡ 0
unfolding hit
hit_ne s a h = rw (ne_eqb s a h)

-- two slots are one, or they are two
pub hit_cases : {X : Type 0} (s a : ℕ) → (s ≡ a → X) → (hit s a ≡ 0 → X) → X
hit_cases {X} s a x y = go (eqb s a) refl
  where
    go : (t : Bool) → eqb s a ≡ t → X
    go true e = x (eqb-true s a e)
    go false e = y (hit_ne s a (eqb-false s a e))

pub hit_eq : (s a : ℕ) → 0 < hit s a → s ≡ a
hit_eq s a h = hit_cases s a (λ e. e) (λ z. absurd (omega arith))

pub hit_le : (s a : ℕ) → hit s a ≤ 1
hit_le s a = hit_cases s a (λ e. rw e (omega (arith, hit_same a))) (λ z. omega arith)

pub hit_zero : (s a : ℕ) → hit s a ≡ 0 → s ≢ a
hit_zero s a z e = let q : hit a a ≡ 0 = rw e at z in omega (arith, hit_same a)

-- a slot of a node is its root's, or stands in one of its subtrees
pub occ_cases : {X : Type 0} (s a : ℕ) (l r : Tree) → 0 < occ s (node l a r)
    → (0 < occ s l → X) → (s ≡ a → X) → (0 < occ s r → X) → X
occ_cases s a l r h x y z = hit_cases s a y (λ q. compare (occ s l) 0 (λ e. z (omega arith)) x)

-- slots of a tree, and of a way up, differ from a slot that is not there
pub apart : (s a : ℕ) (t : Tree) → occ a t ≡ 0 → 0 < occ s t → s ≢ a
apart s a t z h e = let q : 0 < occ a t = rw e at h in omega arith

pub apart_way : (s a : ℕ) (c : List Frame) → occs a c ≡ 0 → 0 < occs s c → s ≢ a
apart_way s a c z h e = let q : 0 < occs a c = rw e at h in omega arith

pub occ_bin : (a : ℕ) (b : Bool) (x : Tree) (s : ℕ) (y : Tree) → occ a (bin b x s y) ≡ occ a x + hit a s + occ a y
occ_bin a true x s y = refl
occ_bin a false x s y = omega arith

pub occ_plug : (a : ℕ) (c : List Frame) (t : Tree) → occ a (plug c t) ≡ occs a c + occ a t
occ_plug a [] t = omega arith
occ_plug a (frame b s far ∷ c) t = omega (arith, occ_plug a c (bin b t s far), occ_bin a b t s far)

pub times_append : (s : ℕ) (xs ys : List ℕ) → times s (xs ++ ys) ≡ times s xs + times s ys
times_append s [] ys = omega arith
times_append s (a ∷ xs) ys = omega (arith, times_append s xs ys)

pub times_slots : (s : ℕ) (t : Tree) → times s (slots t) ≡ occ s t
times_slots s leaf = refl
times_slots s (node l a r) = omega (arith, times_append s (slots l) (a ∷ slots r), times_slots s l, times_slots s r)
