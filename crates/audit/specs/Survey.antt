-- The check's rule: what one pass over the links finds, from the leaves up. proofs/Decides shows
-- that it says yes exactly to the stores that pass.
-- Letters: W words, C colours, n count, s slot, b ok (right so far), d interval of the parent,
--   x node, p parent, k link, N nodes (by slot), M judged (makes the node that is judged), l left
--   hull or left subtree, r right hull or right subtree or root, a found
use Rattle.std.specs.Prelude.{Bool, true, false, cond, not, ◌&&◌, ◌||◌, List, ℕ, zero, suc, ◌+◌, eqb, ltb}
use Rattle.words.specs.Ix.{U}
use Rattle.words.specs.Intervals.{proper, le, eq, extended}
use Rattle.words.specs.Nodes.{kid, par, interval, hull}
use Rattle.words.specs.declared.interval.Interval.{Interval}
use Rattle.bitvec.specs.Colours.{red}
use Rattle.tree.specs.RedBlack.{black_of}
use Rattle.audit.specs.declared.Node.{Node}
use Rattle.audit.specs.declared.Found.{Found}

-- what the check reads of a slot
abbrev pub node_at_lem : (words colours : List ℕ) (slot : ℕ) → Node
node_at_lem W C s =
    record {
      interval = interval W s;
      hull = hull W s;
      left = kid W true s;
      right = kid W false s;
      parent = par W s;
      red = red C s;
    }

-- a subtree without nodes: right, or broken. The interval above it stands for its first, its last
-- and its hull.
abbrev pub no_nodes_lem : (ok : Bool) (interval : Interval) → Found
no_nodes_lem b d = record { ok = b; size = 0; blacks = 0; red = false; first = d; last = d; hull = d }

-- "child and parent links agree"; and the links differ unless they are undefined, so that no slot
-- is reached twice
abbrev pub tied : (node : Node) (parent : ℕ) → Bool
tied x p = eqb x.parent p && (not (eqb x.left x.right) || eqb x.left U)

-- "start < end; entries in tree order never fall": with the last interval of the left subtree and
-- the first of the right
abbrev pub ordered : (own last first : Interval) → Bool
ordered own last first = proper own && le last own && le own first

-- the hull, from the node's own interval and the hulls of its children
abbrev pub hulled : (node : Node) (left right : Interval) → Bool
hulled x l r = eq x.hull (extended (extended x.interval l) r)

-- "no red node has a red child; every way down to U passes equally many blacks"
abbrev pub coloured : (node : Node) (left right : Found) → Bool
coloured x l r = eqb l.blacks r.blacks && (not x.red || not (l.red || r.red))

-- a node is right where its subtrees are
abbrev pub suits : (node : Node) (left right : Found) → Bool
suits x l r = ordered x.interval l.last r.first && hulled x l.hull r.hull && coloured x l r

abbrev pub fits : (node : Node) (left right : Found) → Bool
fits x l r = l.ok && r.ok && suits x l r

-- what is found of a node, with what was found of its subtrees
abbrev pub combined : (node : Node) (left right : Found) → Found
combined x l r =
    cond (fits x l r)
    (record {
      ok = true;
      size = l.size + r.size + 1;
      blacks = black_of x.red + l.blacks;
      red = x.red;
      first = l.first;
      last = r.last;
      hull = x.hull;
    })
    (no_nodes_lem false x.interval)

-- the link k below p leads to a slot with these links that names its parent and has no children,
-- and the height allows for the two ways past it
abbrev pub childless : (left right up count height parent link : ℕ) → Bool
childless left right up n height p k = ltb k n && (eqb up p && eqb left U && eqb right U && not (eqb k U) && ltb 1 height)

-- the slot k, below p, is entered
abbrev pub enters : (nodes : ℕ → Node) (count parent link : ℕ) → Bool
enters N n p k = ltb k n && tied (N k) p

-- One pass over the subtree at the link k, below the slot p whose interval is d, with fewer than
-- `height` nodes on its ways down. N reads a slot's node. M makes the node that is judged, of the
-- one that was read and of what was found of its subtrees.
unfoldable pub pass : (judged : Node → Found → Found → Node) (nodes : ℕ → Node)
    (count height parent : ℕ) (interval : Interval) (link : ℕ) → Found
pass M N n zero p d k = no_nodes_lem false d
pass M N n (suc height) p d k =
    let l : Found = pass M N n height k (N k).interval (N k).left in
    let r : Found = pass M N n height k (N k).interval (N k).right in
    cond (eqb k U) (no_nodes_lem true d) (cond (enters N n p k) (combined (M (N k) l r) l r) (no_nodes_lem false d))

-- the check of a store: every node is judged as it was read
abbrev pub as_read : (node : Node) (left right : Found) → Node
as_read x l r = x

abbrev pub survey : (words colours : List ℕ) (count height parent : ℕ) (interval : Interval)
    (link : ℕ) → Found
survey W C n height p d k = pass as_read (node_at_lem W C) n height p d k

-- what is found below the root, in a store of n entries
abbrev pub is_whole : (count : ℕ) (found : Found) → Bool
is_whole n a = a.ok && eqb a.size n && not a.red

-- the whole store: no tree that passes is higher than 32, and the root's parent is U
unfoldable pub whole_of : (words colours : List ℕ) (count root : ℕ) → Bool
whole_of W C n r = is_whole n (survey W C n 33 U (record { start = 0; end = 0 }) r)
