-- Overlap lookup: the entries that intersect a range.
-- Letters: W words, n count, b bound, a child of s, s slot, q range, k rule, p entries
use Rattle.std.specs.Prelude.{Bool, true, false, List, ℕ}
use Rattle.words.specs.Ix.{on_link}
use Rattle.words.specs.Nodes.{lo, hi, kid, interval}
use Rattle.words.specs.Intervals.{reached, admits, intersects}
use Rattle.std.specs.declared.ops.Bound.{Bound}
use Rattle.words.specs.declared.interval.Span.{Span}
use Rattle.iter.specs.Ranges.{by_rule_lem}
use Rattle.iter.specs.Walk.{Rules}

-- the entry of slot s intersects the range
unfoldable pub meets : (words : List ℕ) (range : Span) (slot : ℕ) → Bool
meets W q s = intersects q (interval W s)

-- `should_go_left`: "if the child's hull end >= lo .. or lo is Unbounded"
abbrev pub should_go_left_lem : (words : List ℕ) (count : ℕ) (bound : Bound ℕ) (slot : ℕ) → Bool
should_go_left_lem W n b s = on_link n (kid W true s) (λ a. reached b (hi W a)) false

-- `should_go_right`: "if its hull start is <= hi, < hi, or hi is Unbounded, in that order of kinds"
abbrev pub should_go_right_lem : (words : List ℕ) (count : ℕ) (bound : Bound ℕ) (slot : ℕ) → Bool
should_go_right_lem W n b s = on_link n (kid W false s) (λ a. admits b (lo W a)) false

-- at `true` the left side
unfoldable pub should_go : (words : List ℕ) (count : ℕ) (range : Span) (side : Bool) (slot : ℕ)
    → Bool
should_go W n q true s = should_go_left_lem W n q.lo s
should_go W n q false s = should_go_right_lem W n q.hi s

-- pruned by the range q, for the entries that intersect the range p
abbrev pub pruned : (words : List ℕ) (count : ℕ) (range entries : Span) → Rules
pruned W n q p = record { go = should_go W n q; match = meets W p }

-- document 02, item 11: "Pruning, entered nodes and the touching count stay as they are under both"
abbrev pub ruled : (words : List ℕ) (count rule : ℕ) (range : Span) → Rules
ruled W n k q = pruned W n q (by_rule_lem k q)

-- "rule 1 stays the default"
abbrev pub overlap : (words : List ℕ) (count : ℕ) (range : Span) → Rules
overlap W n q = ruled W n 1 q
