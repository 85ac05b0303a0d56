-- A tree with no slot twice has as many nodes as there are slots exactly if each slot is in it.
use mathlib.Core.Path.{◌≡◌, refl, sym, ◌∙◌}
use Prim.Native.Nat.{ℕ, zero, suc, ◌+◌, ◌<◌, ◌≤◌}
use native.Mathlib.Omega.{arith}
use Rattle.tree.specs.Tree.{Tree, leaf, node, hit, occ, size}
use Rattle.tree.proofs.Slots.{hit_same, hit_ne, hit_cases, hit_zero}

-- how many of the slots below m a tree has, and whether a slot is below m
upto : ℕ → Tree → ℕ
upto zero t = 0
upto (suc m) t = upto m t + occ m t

upto_hit : ℕ → ℕ → ℕ
upto_hit zero a = 0
upto_hit (suc m) a = upto_hit m a + hit m a

upto_leaf : (m : ℕ) → upto m leaf ≡ 0
unfolding upto
upto_leaf zero = refl
upto_leaf (suc m) = omega (arith, upto_leaf m)

upto_node : (m : ℕ) (l : Tree) (a : ℕ) (r : Tree) → upto m (node l a r) ≡ upto m l + upto_hit m a + upto m r
unfolding upto upto_hit
upto_node zero l a r = refl
upto_node (suc m) l a r = omega (arith, upto_node m l a r)

upto_miss : (m a : ℕ) → m ≤ a → upto_hit m a ≡ 0
unfolding upto_hit
upto_miss zero a h = refl
upto_miss (suc m) a h = omega (arith, upto_miss m a (omega arith), hit_ne m a (omega arith))

upto_one : (m a : ℕ) → a < m → upto_hit m a ≡ 1
unfolding upto_hit
upto_one zero a h = absurd (omega arith)
upto_one (suc m) a h =
    hit_cases m a
    (λ e. rw e (omega (arith, upto_miss a a (omega arith), hit_same a)))
    (λ z. omega (arith, upto_one m a (omega (arith, hit_zero m a z))))

upto_size : (m : ℕ) (t : Tree) → ((s : ℕ) → 0 < occ s t → s < m) → upto m t ≡ size t
upto_size m leaf f = upto_leaf m
upto_size m (node l a r) f =
    omega (
      arith,
      upto_node m l a r,
      upto_one m a (f a (omega (arith, hit_same a))),
      upto_size m l (λ s o. f s (omega arith)),
      upto_size m r (λ s o. f s (omega arith)),
    )

upto_le : (m : ℕ) (t : Tree) → ((s : ℕ) → occ s t ≤ 1) → upto m t ≤ m
unfolding upto
upto_le zero t f = omega arith
upto_le (suc m) t f = omega (arith, upto_le m t f, f m)

upto_full : (m : ℕ) (t : Tree) → ((s : ℕ) → occ s t ≤ 1) → upto m t ≡ m → (s : ℕ) → s < m → occ s t ≡ 1
unfolding upto
upto_full zero t f e s h = absurd (omega arith)
upto_full (suc m) t f e s h =
    hit_cases s m
    (λ q. rw q (omega (arith, upto_le m t f, f m)))
    (λ z. upto_full m t f (omega (arith, upto_le m t f, f m)) s (omega (arith, hit_zero s m z)))

upto_all : (m : ℕ) (t : Tree) → ((s : ℕ) → s < m → occ s t ≡ 1) → upto m t ≡ m
unfolding upto
upto_all zero t f = refl
upto_all (suc m) t f = omega (arith, upto_all m t (λ s h. f s (omega arith)), f m (omega arith))

module _ (n : ℕ) (t : Tree) (live : (s : ℕ) → 0 < occ s t → s < n) where
  -- as many nodes as slots, and none twice: each once
  pub full : ((s : ℕ) → occ s t ≤ 1) → size t ≡ n → (s : ℕ) → s < n → occ s t ≡ 1
  full g e = upto_full n t g (upto_size n t live ∙ e)

  -- each once: as many nodes as slots
  pub full_size : ((s : ℕ) → s < n → occ s t ≡ 1) → size t ≡ n
  full_size g = sym (upto_size n t live) ∙ upto_all n t g

  pub size_le : ((s : ℕ) → occ s t ≤ 1) → size t ≤ n
  size_le g = omega (arith, upto_size n t live, upto_le n t g)
