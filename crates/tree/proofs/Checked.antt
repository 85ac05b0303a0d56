-- What every store that passes has: one tree, of live slots, each once, as many as the count; and
-- it is low.
use mathlib.Core.Path.{◌≡◌}
use mathlib.Core.List.{List}
use Prim.Native.Nat.{ℕ, ◌<◌, ◌≤◌}
use native.Mathlib.Omega.{arith}
use Rattle.words.specs.Ix.{U}
use Rattle.bitvec.specs.Colours.{red}
use Rattle.tree.specs.Tree.{Tree, leaf, node, occ, size, height, Shape}
use Rattle.tree.specs.Passes.{Passes}
use Rattle.tree.proofs.Cases.{compare, not_any}
use Rattle.tree.proofs.Frames.{shape_live}
use Rattle.tree.proofs.Sizes.{full_size}
use Rattle.tree.proofs.Once.{one_tree}
use Rattle.tree.proofs.Balance.{height_32}

-- a store has at most one tree
pub unique : (W C : List ℕ) (n r : ℕ) → n ≤ 65535 → (g h : Passes W C n r) → g.tree ≡ h.tree
unique W C n r small g h = one_tree W n small U U r g.tree h.tree g.shape h.shape

module _ (W C : List ℕ) (n r : ℕ) (h : Passes W C n r) where
  pub slot_live : (a : ℕ) → 0 < occ a h.tree → a < n
  slot_live a = shape_live W n U r h.tree a h.shape

  pub slot_once : (a : ℕ) → occ a h.tree ≤ 1
  slot_once a = compare (occ a h.tree) 1 (λ q. q) (λ q. omega (arith, h.once a (slot_live a (omega arith))))

  pub tree_size : size h.tree ≡ n
  tree_size = full_size n h.tree slot_live h.once

  -- "With 65,535 nodes at most it is at most 32."
  pub tree_low : n ≤ 65535 → height h.tree ≤ 32
  tree_low small = height_32 (red C) h.tree h.red_black h.top (omega (arith, tree_size))

  -- "count 0 means root U and the reverse"
  pub empty_root : n ≡ 0 → r ≡ U
  empty_root z = go h.tree h.shape
    where
      go : (t : Tree) → Shape W n U r t → r ≡ U
      go leaf q = q
      go (node a s b) q = omega (arith, q.live)

  pub root_empty : n ≤ 65535 → r ≡ U → n ≡ 0
  root_empty small e = go h.tree h.shape h.once
    where
      go : (t : Tree) → Shape W n U r t → ((s : ℕ) → s < n → occ s t ≡ 1) → n ≡ 0
      go leaf q o = not_any n (λ i. omega (arith, o 0 i))
      go (node a s b) q o = omega (arith, q.live, q.here)
