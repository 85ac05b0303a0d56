-- How a build, a removal, an insertion and a renumbering leave a map with what is lent with it, and
-- the tree that its links make.
-- Letters: W words, t store, s slot, e entry, S triples, k link, q range, h height, r right
--   subtree, v version, l left subtree, P plan
use Rattle.std.specs.Prelude.{true, false, cond, List, ℕ, zero, suc, ◌+◌, ◌-◌, ◌*◌, ◌/◌, eqb, replicate}
use Rattle.words.specs.Ix.{U}
use Rattle.words.specs.Nodes.{kid}
use Rattle.words.specs.declared.interval.Span.{Span}
use Rattle.words.specs.declared.node.Entry.{Entry}
use Rattle.tree.specs.Tree.{Tree, leaf, node, height}
use Rattle.iter_laws.specs.Entered.{touching}
use Rattle.iset.specs.Maps.{map_at, empty_map}
use Rattle.iset.specs.Sequence.{State, build, remove, insert, renumber, answered}

-- the store that is built from the list S in so many words and bytes, all of them 0 before
unfoldable pub build_in_lem : (words bytes : ℕ) (triples : List ℕ) → State
build_in_lem words bytes S = answered (record { map = empty_map; words = replicate words 0; colours = replicate bytes 0 }) (build S)

-- the store with another version
infixl 75 ◌at◌
unfoldable pub ◌at◌ : (store : State) (version : ℕ) → State
◌at◌ t v = record { map = map_at t.map.count t.map.root v; words = t.words; colours = t.colours }

-- the store after the removal of slot s
infixl 75 ◌minus◌
unfoldable pub ◌minus◌ : (store : State) (slot : ℕ) → State
◌minus◌ t s = answered t (remove s)

-- the store after the insertion of the entry e
infixl 75 ◌plus◌
unfoldable pub ◌plus◌ : (store : State) (entry : Entry) → State
◌plus◌ t e = answered t (insert e)

-- the store after it is renumbered by the plan P
infixl 75 ◌by◌
unfoldable pub ◌by◌ : (store : State) (plan : List ℕ) → State
◌by◌ t P = answered t (renumber P)

-- the tree at the link k, down to so many levels
unfoldable pub tree_at : (words : List ℕ) (levels link : ℕ) → Tree
tree_at W zero k = leaf
tree_at W (suc levels) k =
    let l : Tree = tree_at W levels (kid W true k) in
    let r : Tree = tree_at W levels (kid W false k) in
    cond (eqb k U) leaf (node l k r)

-- the tree of a store: where the store passes the check it is the check's own, at most 32 levels
-- high (`read_tree` of proofs/Bounds)
unfoldable pub tree_of : (store : State) → Tree
tree_of t = tree_at t.words 32 t.map.root

-- t, the number of entries that "meet or touch" the range, and demand 3's bound h + t * h * (h - 1)
-- / 2, as `overlap_bound` has them
unfoldable pub touched : (store : State) (range : Span) → ℕ
touched t q = touching t.words q (tree_of t)

unfoldable pub bound_of : (store : State) (range : Span) → ℕ
bound_of t q =
    let h : ℕ = height (tree_of t) in
    h + touched t q * (h * (h - 1)) / 2
