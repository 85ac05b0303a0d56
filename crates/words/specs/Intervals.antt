-- Intervals: their order and their hull; and the bounds of a range.
-- Letters: x number of a bound or interval, e end, s start, q range, a first interval or hull,
--   b second interval or interval
use Rattle.std.specs.Prelude.{Bool, true, cond, ◌&&◌, ◌||◌, ℕ, min, max, eqb, leb, ltb}
use Rattle.std.specs.declared.ops.Bound.{Bound}
use Rattle.std.specs.declared.ops.Bound.TheVariants.{Included, Excluded, Unbounded}
use Rattle.words.specs.declared.interval.Span.{Span}
use Rattle.words.specs.declared.interval.Interval.{Interval}

-- "A range has two bounds, each Included, Excluded or Unbounded": a bound by the number of its
-- kind, 0, 1 or 2, and its own number
abbrev pub bound_of : (kind number : ℕ) → Bound ℕ
bound_of kind x = cond (eqb kind 0) (Included x) (cond (eqb kind 1) (Excluded x) Unbounded)

-- "end > lo, or lo is Unbounded"
abbrev pub passed : (bound : Bound ℕ) (end : ℕ) → Bool
passed (Included x) e = ltb x e
passed (Excluded x) e = ltb x e
passed Unbounded e = true

-- "the same with end >= lo"
abbrev pub reached : (bound : Bound ℕ) (end : ℕ) → Bool
reached (Included x) e = leb x e
reached (Excluded x) e = leb x e
reached Unbounded e = true

-- "start <= hi for Included, start < hi for Excluded, or Unbounded"
abbrev pub admits : (bound : Bound ℕ) (start : ℕ) → Bool
admits (Included x) s = leb s x
admits (Excluded x) s = ltb s x
admits Unbounded s = true

-- an entry intersects a range; it meets or touches it
abbrev pub intersects : (range : Span) (interval : Interval) → Bool
intersects q x = passed q.lo x.end && admits q.hi x.start

abbrev pub touches : (range : Span) (interval : Interval) → Bool
touches q x = reached q.lo x.end && admits q.hi x.start

-- "start < end"
abbrev pub proper : (interval : Interval) → Bool
proper x = ltb x.start x.end

-- "by start, then end; equals allowed"
abbrev pub le : (first second : Interval) → Bool
le a b = ltb a.start b.start || (eqb a.start b.start && leb a.end b.end)

abbrev pub eq : (first second : Interval) → Bool
eq a b = eqb a.start b.start && eqb a.end b.end

-- a hull contains an interval: "hull start <= start, end <= hull end"
abbrev pub contains : (hull interval : Interval) → Bool
contains a b = leb a.start b.start && leb b.end a.end

-- the hull of two
abbrev pub extended : (first second : Interval) → Interval
extended a b = record { start = min a.start b.start; end = max a.end b.end }
