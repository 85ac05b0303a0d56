-- On any nodes the pass enters each slot once at most, so it comes to 2 · count + 1 calls at most.
use mathlib.Core.Path.{◌≡◌, refl, sym, ap, ◌∙◌}
use mathlib.Core.Logic.{◌≢◌}
use mathlib.Core.Bool.{Bool, true, false, cond}
use Prim.Native.Nat.{ℕ, zero, suc, ◌+◌, ◌*◌, ◌<◌, ◌≤◌}
use native.Mathlib.Omega.{arith}
use lib.Dec.{eqb}
use borrow.Author.Tests.{eqb-false}
use Rattle.words.specs.Ix.{U}
use Rattle.tree.specs.Tree.{Tree, leaf, node, occ, size}
use Rattle.tree.proofs.Cases.{compare, not_any}
use Rattle.tree.proofs.Slots.{hit_same, hit_cases, hit_le, occ_cases}
use Rattle.tree.proofs.Sizes.{size_le}
use Rattle.audit.specs.declared.Node.{Node}
use Rattle.audit.specs.Survey.{enters}
use Rattle.audit.specs.Calls.{calls}
use Rattle.audit.proofs.Tests.{entering}

-- The slots entered, as a tree. Whatever the nodes are, each is live, knows its parent, and its
-- links differ.
record Entered (N : ℕ → Node) (n p k s : ℕ) (L R : Type 0) : Type 0 where
  here : k ≡ s
  real : s ≢ U
  live : s < n
  up : (N s).parent ≡ p
  twins : (N s).left ≡ (N s).right → (N s).left ≡ U
  left : L
  right : R

abbrev Near : (ℕ → Node) → ℕ → ℕ → ℕ → Tree → Type 0
Near N n p k leaf = Unit {0}
Near N n p k (node l s r) = Entered N n p k s (Near N n s (N s).left l) (Near N n s (N s).right r)

-- d parents above s comes what can not be entered
abbrev Rank : (ℕ → Node) → ℕ → ℕ → ℕ → Type 0
Rank N n zero s = s < n → s ≡ U
Rank N n (suc d) s = (s ≢ U) × (s < n) × Rank N n d (N s).parent

module _ (N : ℕ → Node) (n : ℕ) where
  one_rank : (c d s : ℕ) → Rank N n c s → Rank N n d s → c ≡ d
  one_rank zero zero s h i = refl
  one_rank zero (suc d) s h i = absurd (i.0 (h i.1))
  one_rank (suc c) zero s h i = absurd (h.0 (i h.1))
  one_rank (suc c) (suc d) s h i = ap suc (one_rank c d (N s).parent h.2 i.2)

  root_rank : (c p k : ℕ) (l : Tree) (s : ℕ) (r : Tree) → Near N n p k (node l s r) → Rank N n c p → Rank N n (suc c) s
  root_rank c p k l s r h q = (h.real, h.live, rw h.up q)

  -- a slot of a tree has more parents above it than the slot above the tree
  deep : {X : Type 0} (c p k : ℕ) (t : Tree) (a : ℕ) → Near N n p k t → Rank N n c p → 0 < occ a t
      → ((d : ℕ) → c < d → Rank N n d a → X) → X
  deep c p k leaf a h q o x = absurd (omega arith)
  deep c p k (node l s r) a h q o x =
      let z : Rank N n (suc c) s = root_rank c p k l s r h q in
      occ_cases a s l r o
      (λ i. deep (suc c) s (N s).left l a h.left z i (λ d m. x d (omega arith)))
      (λ e. x (suc c) (omega arith) (rw e z))
      (λ i. deep (suc c) s (N s).right r a h.right z i (λ d m. x d (omega arith)))

  near_live : (p k : ℕ) (t : Tree) (a : ℕ) → Near N n p k t → 0 < occ a t → (a ≢ U) × (a < n)
  near_live p k leaf a h o = absurd (omega arith)
  near_live p k (node l s r) a h o =
      occ_cases a s l r o (near_live s (N s).left l a h.left) (λ e. rw e (h.real, h.live)) (near_live s (N s).right r a h.right)

  -- the slot above a tree is not in it
  not_in : (c s k : ℕ) (t : Tree) → Near N n s k t → Rank N n c s → occ s t ≡ 0
  not_in c s k t h q = not_any (occ s t) (λ o. deep c s k t s h q o (λ d m z. omega (arith, one_rank c d s q z)))

  -- a slot is the root's, below p, or its parent is in the tree
  climb : {X : Type 0} (p k : ℕ) (t : Tree) (a : ℕ) → Near N n p k t → 0 < occ a t
      → (a ≡ k → (N a).parent ≡ p → X) → (0 < occ (N a).parent t → X) → X
  climb p k leaf a h o x y = absurd (omega arith)
  climb p k (node l s r) a h o x y =
      occ_cases a s l r o
      (λ i. climb s (N s).left l a h.left i (λ e u. y (rw u (omega (arith, hit_same s)))) (λ j. y (omega arith)))
      (λ e. x (e ∙ sym h.here) (rw e h.up))
      (λ i. climb s (N s).right r a h.right i (λ e u. y (rw u (omega (arith, hit_same s)))) (λ j. y (omega arith)))

  -- no slot is in both subtrees of the slot a: its parent would be too, and so on up to the two
  -- links of a
  apart : (a : ℕ) (l r : Tree) → Near N n a (N a).left l → Near N n a (N a).right r
      → ((N a).left ≡ (N a).right → (N a).left ≡ U) → occ a l ≡ 0 → occ a r ≡ 0
      → (d s : ℕ) → Rank N n d s → 0 < occ s l → 0 < occ s r → ⊥
  apart a l r hl hr tw nl nr zero s q x y = let (u, m) = near_live a (N a).left l s hl x in u (q m)
  apart a l r hl hr tw nl nr (suc d) s q x y =
      climb a (N a).left l s hl x
      (λ e v. climb a (N a).right r s hr y
      (λ f w. q.0 (e ∙ tw (sym e ∙ f)))
      (λ j. let w : 0 < occ a r = rw v at j in omega arith))
      (λ i. climb a (N a).right r s hr y
      (λ f w. let z : 0 < occ a l = rw w at i in omega arith)
      (λ j. apart a l r hl hr tw nl nr d (N s).parent q.2 i j))

  once : (c p k : ℕ) (t : Tree) → Near N n p k t → Rank N n c p → (s : ℕ) → occ s t ≤ 1
  once c p k leaf h q s = omega arith
  once c p k (node l a r) h q s =
      hit_cases s a
      (λ e. let w : (occ s l ≡ 0) × (occ s r ≡ 0) = rw e (zl, zr) in omega (arith, hit_le s a))
      (λ z. compare (occ s l) 0
      (λ i. omega (arith, once (suc c) a (N a).right r h.right ra s))
      (λ i. omega (arith, once (suc c) a (N a).left l h.left ra s, not_any (occ s r) (split i))))
    where
      ra : Rank N n (suc c) a
      ra = root_rank c p k l a r h q

      zl : occ a l ≡ 0
      zl = not_in (suc c) a (N a).left l h.left ra

      zr : occ a r ≡ 0
      zr = not_in (suc c) a (N a).right r h.right ra

      split : 0 < occ s l → 0 < occ s r → ⊥
      split x y = deep (suc c) a (N a).left l s h.left ra x (λ d m z. apart a l r h.left h.right h.twins zl zr d s z x y)

module _ (N : ℕ → Node) (n : ℕ) where
  -- the slots entered
  seen : ℕ → ℕ → ℕ → Tree
  seen zero p k = leaf
  seen (suc height) p k =
      let l : Tree = seen height k (N k).left in
      let r : Tree = seen height k (N k).right in
      cond (eqb k U) leaf (cond (enters N n p k) (node l k r) leaf)

  seen_near : (h p k : ℕ) → Near N n p k (seen h p k)
  unfolding seen
  seen_near zero p k = tt
  seen_near (suc h) p k =
      go (seen h k (N k).left) (seen h k (N k).right) (seen_near h k (N k).left) (seen_near h k (N k).right)
      (eqb k U) (enters N n p k) refl refl
    where
      go : (l r : Tree) → Near N n k (N k).left l → Near N n k (N k).right r → (u v : Bool) → eqb k U ≡ u → enters N n p k ≡ v
          → Near N n p k (cond u leaf (cond v (node l k r) leaf))
      go l r x y true v e f = tt
      go l r x y false false e f = tt
      go l r x y false true e f =
          let (live, (up, twins)) = (entering N n p k).holds f in
          record { here = refl; real = eqb-false k U e; live = live; up = up; twins = twins; left = x; right = y }

  -- a call for each slot entered, and one for each link that is not followed
  calls_seen : (h p k : ℕ) → calls N n h p k ≡ 2 * size (seen h p k) + 1
  unfolding seen calls
  calls_seen zero p k = refl
  calls_seen (suc h) p k =
      go (seen h k (N k).left) (seen h k (N k).right) _ _ (calls_seen h k (N k).left) (calls_seen h k (N k).right)
      (eqb k U) (enters N n p k)
    where
      go : (l r : Tree) (a b : ℕ) → a ≡ 2 * size l + 1 → b ≡ 2 * size r + 1 → (u v : Bool)
          → cond u 1 (cond v (suc (a + b)) 1) ≡ 2 * size (cond u leaf (cond v (node l k r) leaf)) + 1
      go l r a b x y true v = refl
      go l r a b x y false false = refl
      go l r a b x y false true = omega arith

  -- whatever nodes, count, root and height are
  pub linear : (h r : ℕ) → calls N n h U r ≤ 2 * n + 1
  linear h r =
      let z : Near N n U r (seen h U r) = seen_near h U r in
      omega (
        arith,
        calls_seen h U r,
        size_le n (seen h U r) (λ s o. (near_live N n U r (seen h U r) s z o).1) (once N n 0 U r (seen h U r) z (λ q. refl)),
      )
