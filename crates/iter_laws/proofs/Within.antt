-- Every entry of a tree lies within the hull at its root.
use mathlib.Core.List.{List}
use Prim.Native.Nat.{ℕ, ◌<◌, ◌≤◌, min, max}
use native.Mathlib.Omega.{arith}
use Rattle.words.specs.Nodes.{start, stop, lo, hi}
use Rattle.tree.specs.Tree.{Tree, leaf, node, occ}
use Rattle.tree.specs.Hulls.{least, most, Hulls}
use Rattle.tree.proofs.Slots.{occ_cases}
use Rattle.tree.proofs.Hulls.{least_le, le_most}

least_of : (f : ℕ → ℕ) (t : Tree) (d a : ℕ) → 0 < occ a t → least f t d ≤ f a
least_of f leaf d a o = absurd (omega arith)
least_of f (node l s r) d a o =
    occ_cases a s l r o
    (λ i. least_of f l (min (f s) (least f r d)) a i)
    (λ e. rw e (omega (arith, least_le f l (min (f s) (least f r d)))))
    (λ i. omega (arith, least_le f l (min (f s) (least f r d)), least_of f r d a i))

most_of : (f : ℕ → ℕ) (t : Tree) (d a : ℕ) → 0 < occ a t → f a ≤ most f t d
most_of f leaf d a o = absurd (omega arith)
most_of f (node l s r) d a o =
    occ_cases a s l r o
    (λ i. most_of f l (max (f s) (most f r d)) a i)
    (λ e. rw e (omega (arith, le_most f l (max (f s) (most f r d)))))
    (λ i. omega (arith, le_most f l (max (f s) (most f r d)), most_of f r d a i))

pub within : (W : List ℕ) (l : Tree) (s : ℕ) (r : Tree) (a : ℕ) → Hulls W (node l s r) → 0 < occ a (node l s r)
    → (lo W s ≤ start W a) × (stop W a ≤ hi W s)
within W l s r a h o = (
  rw h.low (least_of (start W) (node l s r) (start W s) a o),
  rw h.high (most_of (stop W) (node l s r) (stop W s) a o),
)
