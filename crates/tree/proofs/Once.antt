-- A link leads to one tree; and a tree whose links nowhere coincide has no slot twice.
use mathlib.Core.Path.{◌≡◌, refl, sym, ap, ◌∙◌}
use mathlib.Core.Logic.{◌≢◌}
use mathlib.Core.Bool.{Bool, true, false}
use mathlib.Core.List.{List}
use Prim.Native.Nat.{ℕ, ◌<◌, ◌≤◌}
use native.Mathlib.Omega.{arith}
use Rattle.words.specs.Ix.{U}
use Rattle.words.specs.Nodes.{kid, par}
use Rattle.tree.specs.Tree.{Tree, leaf, node, occ, height, Shape}
use Rattle.tree.proofs.Cases.{compare, not_any}
use Rattle.tree.proofs.Slots.{hit_same, hit_cases, hit_le, occ_cases}
use Rattle.tree.proofs.Frames.{shape_live}

-- no node's links coincide, unless they are undefined
abbrev pub Aparts : List ℕ → Tree → Type 0
Aparts W leaf = Unit {0}
Aparts W (node l s r) = (kid W true s ≡ kid W false s → kid W true s ≡ U) × Aparts W l × Aparts W r

module _ (W : List ℕ) (n : ℕ) (small : n ≤ 65535) where
  -- a link leads to one tree
  pub one_tree : (p q k : ℕ) (t u : Tree) → Shape W n p k t → Shape W n q k u → t ≡ u
  one_tree p q k leaf leaf h i = refl
  one_tree p q k leaf (node l s r) h i = absurd (omega (arith, i.live, i.here))
  one_tree p q k (node l s r) leaf h i = absurd (omega (arith, h.live, h.here))
  one_tree p q k (node l s r) (node x y z) h i =
      let e : y ≡ s = sym i.here ∙ h.here in
      let a : l ≡ x = one_tree s s (kid W true s) l x h.left (rw e at i.left) in
      let b : r ≡ z = one_tree s s (kid W false s) r z h.right (rw e at i.right) in
      rw (a, b, e)

  -- the tree at a slot of a tree
  sub_tree : {X : Type 0} (p k : ℕ) (t : Tree) (a : ℕ) → Shape W n p k t → 0 < occ a t
      → ((q : ℕ) (u : Tree) → Shape W n q a u → height u ≤ height t → X) → X
  sub_tree p k leaf a h o x = absurd (omega arith)
  sub_tree p k (node l s r) a h o x =
      occ_cases a s l r o
      (λ i. sub_tree s (kid W true s) l a h.left i (λ q u g m. x q u g (omega arith)))
      (λ e. x p (node l s r) (rw e (record { here = refl; live = h.live; up = h.up; left = h.left; right = h.right })) (omega arith))
      (λ i. sub_tree s (kid W false s) r a h.right i (λ q u g m. x q u g (omega arith)))

  -- a slot does not stand in a lower tree
  not_lower : (p s : ℕ) (t : Tree) → Shape W n p s t → (q k : ℕ) (u : Tree) → Shape W n q k u → height u < height t → occ s u ≡ 0
  not_lower p s t h q k u g m =
      not_any (occ s u) (λ o. sub_tree q k u s g o (λ j v i x.
      let e : height v ≡ height t = ap height (one_tree j p s v t i h) in omega arith))

  -- the parent link of a tree's root
  pub root_par : (p k : ℕ) (t : Tree) → Shape W n p k t → k < n → par W k ≡ p
  root_par p k leaf h q = absurd (omega arith)
  root_par p k (node l s r) h q = rw h.here h.up

  -- a slot of a tree is its root's, or its parent is in the tree
  climb : {X : Type 0} (p k : ℕ) (t : Tree) (a : ℕ) → Shape W n p k t → 0 < occ a t → (a ≡ k → X) → (0 < occ (par W a) t → X) → X
  climb p k leaf a h o x y = absurd (omega arith)
  climb {X} p k (node l s r) a h o x y =
      occ_cases a s l r o
      (λ i. climb s (kid W true s) l a h.left i (child true l h.left i) (λ j. y (omega arith)))
      (λ e. x (e ∙ sym h.here))
      (λ i. climb s (kid W false s) r a h.right i (child false r h.right i) (λ j. y (omega arith)))
    where
      child : (b : Bool) (t : Tree) → Shape W n s (kid W b s) t → 0 < occ a t → a ≡ kid W b s → X
      child b t g i e =
          let z : par W a ≡ s = rw e (root_par s (kid W b s) t g (rw e at (shape_live W n s (kid W b s) t a g i))) in
          y (rw z (omega (arith, hit_same s)))

  -- a slot is not in a tree if its parent is not, and is not the parent of the tree's root
  child_apart : (a j : ℕ) (v : Tree) → Shape W n a j v → (c x : ℕ) → par W x ≡ c → x < n → occ c v ≡ 0 → c ≢ a → occ x v ≡ 0
  child_apart a j v g c x e q z d =
      not_any (occ x v) (λ y. climb a j v x g y
      (λ f. d (sym e ∙ (rw f (root_par a j v g (rw f at q)))))
      (λ o. let w : 0 < occ c v = rw e at o in omega arith))

  -- a tree u apart from the tree v below the slot a, if its root is not in v
  apart_trees : (a j : ℕ) (v : Tree) → Shape W n a j v → (q k : ℕ) (u : Tree) → Shape W n q k u → occ a u ≡ 0
      → (k < n → occ k v ≡ 0) → (s : ℕ) → 0 < occ s u → occ s v ≡ 0
  apart_trees a j v g q k leaf h z x s o = absurd (omega arith)
  apart_trees a j v g q k (node l c r) h z x s o =
      let zc : occ c v ≡ 0 = rw h.here at (x (rw h.here h.live)) in
      let nc : c ≢ a = λ e. let y : occ a (node l a r) ≡ 0 = rw e at z in omega (arith, hit_same a) in
      let down : (b : Bool) (t : Tree) → Shape W n c (kid W b c) t → kid W b c < n → occ (kid W b c) v ≡ 0 =
      λ b t i y. child_apart a j v g c (kid W b c) (root_par c (kid W b c) t i y) y zc nc in
      occ_cases s c l r o
      (apart_trees a j v g c (kid W true c) l h.left (omega arith) (down true l h.left) s)
      (λ e. rw e zc)
      (apart_trees a j v g c (kid W false c) r h.right (omega arith) (down false r h.right) s)

  -- no slot twice
  pub at_most : (p k : ℕ) (t : Tree) → Shape W n p k t → Aparts W t → (s : ℕ) → occ s t ≤ 1
  at_most p k leaf h d s = omega arith
  at_most p k (node l a r) h d s =
      hit_cases s a
      (λ e. let w : (occ s l ≡ 0) × (occ s r ≡ 0) = rw e (zl, zr) in omega (arith, hit_le s a))
      (λ z. compare (occ s l) 0
      (λ q. omega (arith, at_most a (kid W false a) r h.right d.2 s))
      (λ q. omega (arith, at_most a (kid W true a) l h.left d.1 s, split q)))
    where
      zl : occ a l ≡ 0
      zl = not_lower p a (node l a r) (rw h.here at h) a (kid W true a) l h.left (omega arith)

      zr : occ a r ≡ 0
      zr = not_lower p a (node l a r) (rw h.here at h) a (kid W false a) r h.right (omega arith)

      -- the left child is not in the right subtree, and so nothing below it is
      root : kid W true a < n → occ (kid W true a) r ≡ 0
      root q =
          not_any (occ (kid W true a) r) (λ o. climb a (kid W false a) r (kid W true a) h.right o
          (λ e. omega (arith, d.0 e))
          (λ i. let w : 0 < occ a r = rw (root_par a (kid W true a) l h.left q) at i in omega (arith, zr)))

      split : 0 < occ s l → occ s r ≡ 0
      split = apart_trees a (kid W false a) r h.right a (kid W true a) l h.left zl root s
