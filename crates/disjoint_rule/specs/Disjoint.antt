-- Document 02, item 10: "entries never intersect, though one may end where the next starts".
-- Letters: W words, n count, x interval, a interval or slot, b next interval or other slot,
--   l intervals or slots
use Rattle.std.specs.Prelude.{◌≡◌, ◌≢◌, false, List, [], ◌∷◌, map, ℕ, ◌<◌, ◌≤◌}
use Rattle.words.specs.Intervals.{intersects}
use Rattle.words.specs.Nodes.{interval}
use Rattle.std.specs.declared.ops.Bound.TheVariants.{Included, Excluded}
use Rattle.words.specs.declared.interval.Span.{Span}
use Rattle.words.specs.declared.interval.Interval.{Interval}

-- the addresses of an interval, as a range
abbrev pub range_of : (interval : Interval) → Span
range_of x = record { lo = Included x.start; hi = Excluded x.end }

-- no two of the n entries intersect
abbrev pub Disjoint : (words : List ℕ) (count : ℕ) → Type 0
Disjoint W n = (a b : ℕ) → a < n → b < n → a ≢ b → intersects (range_of (interval W b)) (interval W a) ≡ false

-- an interval ends at or before the start of the first of a list, if there is one
abbrev pub Clear : (interval : Interval) (intervals : List Interval) → Type 0
Clear a [] = Unit {0}
Clear a (b ∷ l) = a.end ≤ b.start

-- each of a list ends at or before the start of the next
abbrev pub Chain : (intervals : List Interval) → Type 0
Chain [] = Unit {0}
Chain (a ∷ l) = Clear a l × Chain l

-- so the intervals of these slots
abbrev pub ChainAt : (words slots : List ℕ) → Type 0
ChainAt W l = Chain (map (interval W) l)
