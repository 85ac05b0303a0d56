-- Exact lookup: the entries equal to a query.
-- Letters: W words, n count, r root, a child of s, k link, d deeper slot, s slot, b side (true:
--   left), x interval asked for
use Rattle.std.specs.Prelude.{Bool, true, false, cond, ◌&&◌, List, ℕ, zero, suc, ltb}
use Rattle.words.specs.Ix.{U, on_link}
use Rattle.words.specs.Nodes.{kid, interval, hull}
use Rattle.words.specs.Intervals.{le, eq, contains}
use Rattle.words.specs.declared.interval.Interval.{Interval}
use Rattle.iter.specs.Walk.{Rules}

-- the entry of slot s is equal to the query
unfoldable pub equals : (words : List ℕ) (interval : Interval) (slot : ℕ) → Bool
equals W x s = eq (interval W s) x

-- "query <= node", and at `false` "with >="
unfoldable pub toward : (words : List ℕ) (interval : Interval) (side : Bool) (slot : ℕ) → Bool
toward W x true s = le x (interval W s)
toward W x false s = le (interval W s) x

-- `should_go_left_exact` at `true`, and `should_go_right_exact`: "goes left if query <= node and
-- the left hull contains the query (hull start <= start, end <= hull end), right with >="
unfoldable pub should_go_exact : (words : List ℕ) (count : ℕ) (interval : Interval) (side : Bool)
    (slot : ℕ) → Bool
should_go_exact W n x b s = on_link n (kid W b s) (λ a. toward W x b s && contains (hull W a) x) false

abbrev pub exact : (words : List ℕ) (count : ℕ) (interval : Interval) → Rules
exact W n x = record { go = should_go_exact W n x; match = equals W x }

-- "the highest equal node, U if none", below the link k; the fuel is the height that is left
unfoldable pub find : (words : List ℕ) (count : ℕ) (interval : Interval) (fuel link : ℕ) → ℕ
find W n x zero k = U
find W n x (suc fuel) k =
    let d : ℕ = find W n x fuel (kid W (toward W x true k) k) in
    cond (ltb k n) (cond (equals W x k) k d) U

-- from the root; a tree has at most 32 nodes on a way
abbrev pub find_from : (words : List ℕ) (count : ℕ) (interval : Interval) (root : ℕ) → ℕ
find_from W n x r = find W n x 32 r
