-- The tree of a span, and its slots.
use mathlib.Core.Path.{◌≡◌, refl, sym, ap, ◌∙◌}
use mathlib.Core.Bool.{Bool, true, false, cond}
use mathlib.Core.List.{List, ◌∷◌, ◌++◌}
use Prim.Native.Nat.{ℕ, zero, suc, ◌+◌, ◌-◌, ◌/◌, ◌^◌, ◌<◌, ◌≤◌}
use native.Mathlib.Omega.{arith}
use lib.Dec.{leb}
use borrow.Author.Tests.{leb-true, leb-false, le-leb}
use Rattle.tree.specs.Tree.{Tree, leaf, node, slots, occ, times}
use Rattle.tree.proofs.Slots.{hit_same, hit_ne, hit_cases, hit_zero, times_slots}
use Rattle.builder.specs.Build.{center}
use Rattle.builder.proofs.Spans.{few_left, few_right}
use Rattle.builder_laws.specs.Built.{range}

-- the tree of the slots [a, b), in f levels
unfoldable pub tree_of : ℕ → ℕ → ℕ → Tree
tree_of zero a b = leaf
tree_of (suc f) a b = cond (leb b a) leaf (node (tree_of f a (center a b)) (center a b) (tree_of f (center a b + 1) b))

-- what holds of an empty span, and of a root over two halves of which it holds, holds of every span
module _ (P : ℕ → ℕ → ℕ → Tree → Type 0)
    (none : (f a b : ℕ) → b ≤ a → P f a b leaf)
    (some : (f a b : ℕ) (l r : Tree) → b - a < 2 ^ suc f → a < b → P f a (center a b) l → P f (center a b + 1) b r
    → P (suc f) a b (node l (center a b) r)) where
  pub spans : (f a b : ℕ) → b - a < 2 ^ f → P f a b (tree_of f a b)
  unfolding tree_of
  spans zero a b h = none zero a b (omega arith)
  spans (suc f) a b h =
      go (λ e. spans f a (center a b) (few_left a b f h e)) (λ e. spans f (center a b + 1) b (few_right a b f h e)) (leb b a) refl
    where
      go : (a < b → P f a (center a b) (tree_of f a (center a b))) → (a < b → P f (center a b + 1) b (tree_of f (center a b + 1) b))
          → (t : Bool) → leb b a ≡ t
          → P (suc f) a b (cond t leaf (node (tree_of f a (center a b)) (center a b) (tree_of f (center a b + 1) b)))
      go x y true q = none (suc f) a b (leb-true b a q)
      go x y false q =
          let e : a < b = leb-false b a q in
          some f a b (tree_of f a (center a b)) (tree_of f (center a b + 1) b) h e (x e) (y e)

pub tree_none : (f a b : ℕ) → b ≤ a → tree_of f a b ≡ leaf
unfolding tree_of
tree_none zero a b h = refl
tree_none (suc f) a b h = rw (le-leb b a h)

range_join : (m a k : ℕ) → range a m ++ range (a + m) k ≡ range a (m + k)
range_join zero a k = let e : a + 0 ≡ a = omega arith in let q : 0 + k ≡ k = omega arith in rw (e, q)
range_join (suc m) a k =
    let e : a + suc m ≡ suc a + m = omega arith in
    let q : suc m + k ≡ suc (m + k) = omega arith in
    rw (e, q) (ap (λ (l : List ℕ). a ∷ l) (range_join m (suc a) k))

-- the slots in tree order
pub slots_span : (f a b : ℕ) → b - a < 2 ^ f → slots (tree_of f a b) ≡ range a (b - a)
slots_span = spans (λ f a b t. slots t ≡ range a (b - a)) (λ f a b h. let z : b - a ≡ 0 = omega arith in rw z) some
  where
    some : (f a b : ℕ) (l r : Tree) → b - a < 2 ^ suc f → a < b → slots l ≡ range a (center a b - a)
        → slots r ≡ range (center a b + 1) (b - (center a b + 1)) → slots l ++ (center a b ∷ slots r) ≡ range a (b - a)
    some f a b l r h e x y =
        let m : center a b - a ≡ (b - a) / 2 = omega arith in
        let q : center a b + 1 ≡ suc (center a b) = omega arith in
        let z : (b - a) / 2 + suc (b - (center a b + 1)) ≡ b - a = omega arith in
        rw (x, y, m, q) (range_join ((b - a) / 2) a (suc (b - suc (center a b))) ∙ rw (← q) (ap (λ (k : ℕ). range a k) z))

-- each slot of a range stands in it once
times_before : (n s a : ℕ) → s < a → times s (range a n) ≡ 0
times_before zero s a h = refl
times_before (suc n) s a h = omega (arith, hit_ne s a (omega arith), times_before n s (suc a) (omega arith))

times_within : (n s a : ℕ) → a ≤ s → s < a + n → times s (range a n) ≡ 1
times_within zero s a h k = absurd (omega arith)
times_within (suc n) s a h k =
    hit_cases s a
    (λ e. rw (← e) (omega (arith, hit_same s, times_before n s (suc s) (omega arith))))
    (λ z. omega (arith, times_within n s (suc a) (omega (arith, hit_zero s a z)) (omega arith)))

pub once_span : (f n s : ℕ) → n < 2 ^ f → s < n → occ s (tree_of f 0 n) ≡ 1
once_span f n s few h =
    let z : n - 0 ≡ n = omega arith in
    let e : slots (tree_of f 0 n) ≡ range 0 n = slots_span f 0 n (omega arith) ∙ rw z in
    sym (times_slots s (tree_of f 0 n)) ∙ rw e (times_within n s 0 (omega arith) (omega arith))
