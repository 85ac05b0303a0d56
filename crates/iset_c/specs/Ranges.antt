-- A query by numbers: a range by the kinds and the numbers of its two bounds, an interval by its
-- start and its end.
use Rattle.std.specs.Prelude.{Bool, ◌&&◌, ℕ, leb}
use Rattle.words.specs.Intervals.{bound_of}
use Rattle.words.specs.declared.interval.Interval.{Interval}
use Rattle.words.specs.declared.interval.Span.{Span}
use Rattle.iter.specs.declared.rules.Query.{Query}
use Rattle.iter.specs.declared.rules.Query.TheVariants.{Overlap, Exact}

abbrev pub span_of : (lo-kind lo hi-kind hi : ℕ) → Span
span_of lo-kind lo hi-kind hi = record { lo = bound_of lo-kind lo; hi = bound_of hi-kind hi }

abbrev pub range_of : (lo-kind lo hi-kind hi : ℕ) → Query
range_of lo-kind lo hi-kind hi = Overlap (span_of lo-kind lo hi-kind hi)

abbrev pub interval_of_lem : (start end : ℕ) → Interval
interval_of_lem start end = record { start = start; end = end }

abbrev pub exact_of : (start end : ℕ) → Query
exact_of start end = Exact (interval_of_lem start end)

-- both are kinds of a bound
unfoldable pub kinds : (lo-kind hi-kind : ℕ) → Bool
kinds lo-kind hi-kind = leb lo-kind 2 && leb hi-kind 2
