-- A range as plain numbers.
-- Letters: W words, x interval asked for or low or top, q range, n none? or count, k link,
--   p entries, l limits or list
use Rattle.std.specs.Prelude.{Bool, true, false, cond, List, ℕ, leb}
use Rattle.std.specs.declared.ops.Bound.{Bound}
use Rattle.std.specs.declared.ops.Bound.TheVariants.{Included, Excluded, Unbounded}
use Rattle.words.specs.declared.interval.Span.{Span}
use Rattle.iter.specs.Ranges.{last, after, by_rule_lem}
use Rattle.iter.specs.Walk.{Rules}
use Rattle.iter.specs.Overlap.{pruned}
use Rattle.iter.specs.Exact.{exact}
use Rattle.iter.specs.declared.limits.Limits.{Limits}
use Rattle.iter.specs.declared.rules.Query.{Query}
use Rattle.iter.specs.declared.rules.Query.TheVariants.{Overlap, Ruled, Exact}
use Rattle.iter.specs.declared.rules.Tests.{Tests}
use Rattle.iter.specs.declared.rules.Tests.TheVariants.{Within, Equal}

-- a lower bound: its number, and whether there is none
abbrev pub low_of : (bound : Bound ℕ) → ℕ
low_of (Included x) = x
low_of (Excluded x) = x
low_of Unbounded = 0

abbrev pub is_below_lem : (bound : Bound ℕ) → Bool
is_below_lem (Included x) = false
is_below_lem (Excluded x) = false
is_below_lem Unbounded = true

-- an upper bound: the least number that it does not admit, and whether there is none
abbrev pub top_of : (bound : Bound ℕ) → ℕ
top_of (Included x) = after x
top_of (Excluded x) = x
top_of Unbounded = 0

abbrev pub is_above_lem : (bound : Bound ℕ) → Bool
is_above_lem (Included x) = leb last x
is_above_lem (Excluded x) = false
is_above_lem Unbounded = true

-- a walk that is pruned by the range q, for the entries past the lower bound of p
abbrev pub limits_of : (range entries : Span) → Limits
limits_of q p = record { low = low_of q.lo; past = low_of p.lo; below = is_below_lem q.lo; top = top_of q.hi; above = is_above_lem q.hi }

-- the bounds that such numbers stand for
abbrev pub lower : (low : ℕ) (none? : Bool) → Bound ℕ
lower x n = cond n Unbounded (Included x)

abbrev pub upper : (top : ℕ) (none? : Bool) → Bound ℕ
upper x n = cond n Unbounded (Excluded x)

abbrev pub span_of : (limits : Limits) → Span
span_of l = record { lo = lower l.low l.below; hi = upper l.top l.above }

abbrev pub entries_of : (limits : Limits) → Span
entries_of l = record { lo = lower l.past l.below; hi = upper l.top l.above }

-- what a walk by such numbers goes by
abbrev pub limited : (words : List ℕ) (count : ℕ) (limits : Limits) → Rules
limited W n l = pruned W n (span_of l) (entries_of l)

-- a query with its range as numbers, and what a walk for it goes by
abbrev pub tests_of : (query : Query) → Tests
tests_of (Overlap q) = Within (limits_of q q)
tests_of (Ruled k q) = Within (limits_of q (by_rule_lem k q))
tests_of (Exact x) = Equal x

unfoldable pub tested : (words : List ℕ) (count : ℕ) (tests : Tests) → Rules
tested W n (Within l) = limited W n l
tested W n (Equal x) = exact W n x
