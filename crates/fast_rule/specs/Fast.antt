-- The fast lookup: no cursor and no stack. It goes down by recursion, and tests both ends of a
-- child's hull before it enters the child. The pruned lookup (crate iter) tests one end.
-- Letters: W words, n count, r root, s slot, k link, b side (true: left), a slot, q range or query,
--   x interval, Q rules of the lookup
use Rattle.std.specs.Prelude.{Bool, true, false, ◌&&◌, List, [], ◌∷◌, ◌++◌, ℕ, zero, suc, length, take}
use Rattle.words.specs.Ix.{on_link}
use Rattle.words.specs.Nodes.{lo, hi, kid}
use Rattle.words.specs.Intervals.{passed, admits}
use Rattle.words.specs.declared.interval.Span.{Span}
use Rattle.iter.specs.declared.rules.Query.{Query}
use Rattle.iter.specs.declared.rules.Query.TheVariants.{Overlap, Ruled, Exact}
use Rattle.iter.specs.Drains.{filled}
use Rattle.words.specs.Lists.{filter}
use Rattle.iter.specs.Lists.{when}
use Rattle.iter.specs.Walk.{Rules}
use Rattle.iter.specs.Ranges.{by_rule_lem}
use Rattle.iter.specs.Overlap.{meets}
use Rattle.iter.specs.Exact.{exact, find_from}

-- the hull of slot a goes past the lower bound of the range, and the upper bound admits its start
abbrev pub nears : (words : List ℕ) (range : Span) (slot : ℕ) → Bool
nears W q a = passed q.lo (hi W a) && admits q.hi (lo W a)

-- whether the child of slot s on the side b is entered: it exists, and its hull is near
unfoldable pub should_enter : (words : List ℕ) (count : ℕ) (range : Span) (side : Bool) (slot : ℕ)
    → Bool
should_enter W n q b s = on_link n (kid W b s) (nears W q) false

abbrev pub narrow : (words : List ℕ) (count : ℕ) (range : Span) → Rules
narrow W n q = record { go = should_enter W n q; match = meets W q }

-- what the lookup goes by; the pruned rules of an exact lookup test both ends of a hull already
unfoldable pub fast_rules : (words : List ℕ) (count : ℕ) (query : Query) → Rules
fast_rules W n (Overlap q) = narrow W n q
fast_rules W n (Ruled k q) = narrow W n (by_rule_lem k q)
fast_rules W n (Exact x) = exact W n x

-- where it begins: at the root r; for an exact lookup at the highest equal node, U if there is none
unfoldable pub start_at : (words : List ℕ) (count : ℕ) (query : Query) (root : ℕ) → ℕ
start_at W n (Overlap q) r = r
start_at W n (Ruled k q) r = r
start_at W n (Exact x) r = find_from W n x r

-- the nodes entered from slot s down, in tree order, with at most `height` of them on a way down
unfoldable pub entering : (words : List ℕ) (rules : Rules) (height slot : ℕ) → List ℕ
entering W Q zero s = []
entering W Q (suc height) s =
    let left : List ℕ = entering W Q height (kid W true s) in
    let right : List ℕ = entering W Q height (kid W false s) in
    when (Q.go true s) left ++ (s ∷ when (Q.go false s) right)

-- from where it begins, if that is a slot; a tree has at most 32 nodes on a way
unfoldable pub fast_nodes : (words : List ℕ) (count : ℕ) (query : Query) (root : ℕ) → List ℕ
fast_nodes W n query r = on_link n (start_at W n query r) (entering W (fast_rules W n query) 32) []

-- the hits: those of them that the query asks for
unfoldable pub fast_hits : (words : List ℕ) (count : ℕ) (query : Query) (root : ℕ) → List ℕ
fast_hits W n query r = filter (fast_rules W n query).match (fast_nodes W n query r)

-- the output after it: as many hits as it has places for; the places past them stay
abbrev pub fitted : (found out : List ℕ) → List ℕ
fitted found out = filled (take (length out) found) out
