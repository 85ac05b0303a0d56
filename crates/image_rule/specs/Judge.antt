-- "judged with hulls worked out": an image holds no hulls. So the pass of the check works them out
-- on its way, and after an image is accepted they are written.
-- Letters: W words, n count, r right subtree or root, s slot, h hull, x node, l left subtree,
--   N nodes (by slot), p parent, d interval of the parent, k link
use Rattle.std.specs.Prelude.{Bool, true, false, List, ℕ, zero, suc, ◌+◌}
use Rattle.words.specs.Ix.{U, on_link}
use Rattle.words.specs.Intervals.{extended}
use Rattle.words.specs.Nodes.{kid, fix}
use Rattle.words.specs.declared.interval.Interval.{Interval}
use Rattle.audit.specs.Survey.{pass, is_whole}
use Rattle.audit.specs.declared.Node.{Node}
use Rattle.audit.specs.declared.Found.{Found}

-- the hull that a node's own interval makes with those of its subtrees
abbrev pub hull_from : (node : Node) (left right : Found) → Interval
hull_from x l r = extended (extended x.interval l.hull) r.hull

-- a node with another hull
abbrev pub with_hull : (node : Node) (hull : Interval) → Node
with_hull x h = record { interval = x.interval; hull = h; left = x.left; right = x.right; parent = x.parent; red = x.red }

-- a node without a hull of its own: its interval is in that place
abbrev pub bare : (node : Node) → Node
bare x = with_hull x x.interval

-- a node with the hull that is worked out
abbrev pub shaped : (node : Node) (left right : Found) → Node
shaped x l r = with_hull x (hull_from x l r)

-- the check's pass over the nodes N, each judged with the hull that is worked out
abbrev pub glance : (nodes : ℕ → Node) (count height parent : ℕ) (interval : Interval) (link : ℕ)
    → Found
glance N n height p d k = pass shaped N n height p d k

-- the whole store in the nodes N
unfoldable pub whole_at : (nodes : ℕ → Node) (count root : ℕ) → Bool
whole_at N n r = is_whole n (glance N n 33 U (record { start = 0; end = 0 }) r)

-- the hulls below the link k, written as `update_subtree_interval` makes them, children first
unfoldable pub worked : (count height : ℕ) (words : List ℕ) (link : ℕ) → List ℕ
worked n zero W k = W
worked n (suc height) W k =
    on_link n k (λ s. fix n (worked n height (worked n height W (kid W true s)) (kid W false s)) s) W

-- the calls that this comes to, the first one counted
unfoldable pub work_calls : (count height : ℕ) (words : List ℕ) (link : ℕ) → ℕ
work_calls n zero W k = 1
work_calls n (suc height) W k =
    on_link n k
    (λ s. suc (work_calls n height W (kid W true s) + work_calls n height (worked n height W (kid W true s)) (kid W false s)))
    1
