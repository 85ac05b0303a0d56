-- Links between slots, and the hulls up to the root, as `src/tree_rm.rs` writes them.
-- Letters: W words, n count, r root, c child link, p parent, g parent, z old link, v new link or
--   child link, s slot, k link or slot, b side (true: left)
use Rattle.std.specs.Prelude.{Bool, true, List, ℕ, zero, suc, eqb}
use Rattle.words.specs.Ix.{U, on_link}
use Rattle.words.specs.Nodes.{kid, par, put_kid, put_par, fix}

-- a child that is there gets p for its parent
unfoldable pub adopt : (count : ℕ) (words : List ℕ) (child parent : ℕ) → List ℕ
adopt n W c p = on_link n c (λ s. put_par W s p) W

-- `set_child`: slot p gets the child link c on the side b, and a child that is there gets p for its
-- parent
unfoldable pub set_child_lem : (count : ℕ) (words : List ℕ) (parent child : ℕ) (side : Bool) → List ℕ
set_child_lem n W p c b = put_kid (adopt n W c p) b p c

-- the link of slot g that leads to z leads to v: the left one if that is it, else the right one
unfoldable pub redirected : (words : List ℕ) (parent old new : ℕ) → List ℕ
redirected W g z v = put_kid W (eqb (kid W true g) z) g v

-- `remove_child`
unfoldable pub remove_child_lem : (words : List ℕ) (parent child : ℕ) → List ℕ
remove_child_lem W g v = redirected W g v U

-- the same where the link word g may lead to no slot
unfoldable pub redirect : (count : ℕ) (words : List ℕ) (parent old new : ℕ) → List ℕ
redirect n W g z v = on_link n g (λ s. redirected W s z v) W

-- `replace_children`, its node words: what led to `old` leads to `new`; and its root
unfoldable pub replaced : (count : ℕ) (words : List ℕ) (old new : ℕ) → List ℕ
replaced n W old new = put_par (redirect n W (par W old) old new) new (par W old)

unfoldable pub root_after : (count : ℕ) (words : List ℕ) (root old new : ℕ) → ℕ
root_after n W r old new = on_link n (par W old) (λ s. r) new

-- `fix_intervals_up`: "hulls are worked out afresh .. up to the root", at most `height` of them
unfoldable pub fix_up : (count height : ℕ) (words : List ℕ) (link : ℕ) → List ℕ
fix_up n zero W k = W
fix_up n (suc height) W k =
    let up : List ℕ = fix_up n height (fix n W k) (par W k) in
    on_link n k (λ s. up) W

-- the leftmost slot from the slot k down, `height` links at the most
unfoldable pub leftmost : (count height : ℕ) (words : List ℕ) (slot : ℕ) → ℕ
leftmost n zero W k = k
leftmost n (suc height) W k = on_link n (kid W true k) (λ s. leftmost n height W s) k
