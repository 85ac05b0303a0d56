-- A place in a tree: the way up from it to the root, a frame a step.
-- Letters: W words, n count, r root, b side (true: left), a slot, c way up, t tree, p parent,
--   k link, s slot
use Rattle.std.specs.Prelude.{◌≡◌, Bool, true, false, not, List, [], ◌∷◌, ℕ, ◌+◌, ◌<◌}
use Rattle.words.specs.Ix.{U}
use Rattle.words.specs.Nodes.{kid, par}
use Rattle.tree.specs.Tree.{Tree, node, occ, hit, Shape}

-- the node s with `near` on the side b, the left one at `true`, and `far` on the other
abbrev pub bin : (side : Bool) (near : Tree) (slot : ℕ) (far : Tree) → Tree
bin true near s far = node near s far
bin false near s far = node far s near

-- one step up: the place is on the side b of the slot s, and `far` is the other subtree of s
pub data Frame : Type 0 where
  frame : (side : Bool) (slot : ℕ) (far : Tree) → Frame

-- the whole tree, with t at the place
abbrev pub plug : (way : List Frame) (tree : Tree) → Tree
plug [] t = t
plug (frame b s far ∷ c) t = plug c (bin b t s far)

-- how often the slot a stands on the way up, its other subtrees with it
abbrev pub occs : (slot : ℕ) (way : List Frame) → ℕ
occs a [] = 0
occs a (frame b s far ∷ c) = hit a s + occ a far + occs a c

-- The link k is the one on the side b of the slot s, which is below the count n and is the parent
-- p; Far holds of the other subtree of s, and Rest of the way up from s.
pub record Step (W : List ℕ) (n p k : ℕ) (b : Bool) (s : ℕ) (Far Rest : Type 0) : Type 0 where
  pub at : p ≡ s
  pub here : k ≡ kid W b s
  pub live : s < n
  pub far : Far
  pub rest : Rest

-- The way up c leads from the link k, below the parent p, to the root r, whose parent is U.
abbrev pub Above : (words : List ℕ) (count root : ℕ) (way : List Frame) (parent link : ℕ) → Type 0
Above W n r [] p k = (p ≡ U) × (k ≡ r)
Above W n r (frame b s far ∷ c) p k = Step W n p k b s (Shape W n s (kid W (not b) s) far) (Above W n r c (par W s) s)
