-- Document 02, item 11: "Callers choose the rule by number, 1 or 2". The rule decides which entries
-- intersect a range. By rule 2 an entry intersects "if some whole address from 0 to
-- 18446744073709551615 lies in both".
-- Letters: b low, x number or interval asked for, q range, k rule, y high
use Rattle.std.specs.Prelude.{Bool, cond, ◌&&◌, ℕ, ◌+◌, eqb, leb, ltb}
use Rattle.words.specs.Intervals.{admits}
use Rattle.std.specs.declared.ops.Bound.{Bound}
use Rattle.std.specs.declared.ops.Bound.TheVariants.{Included, Excluded, Unbounded}
use Rattle.words.specs.declared.interval.Span.{Span}

-- the greatest number of 64 bits, and the number after another; the greatest has none after it
abbrev pub last : ℕ
last = 18446744073709551615

abbrev pub after : (number : ℕ) → ℕ
after x = cond (ltb x last) (x + 1) x

-- a lower bound by its first whole address: no end is past the greatest one
abbrev pub whole_from_lem : (bound : Bound ℕ) → Bound ℕ
whole_from_lem (Included x) = Included x
whole_from_lem (Excluded x) = Included (after x)
whole_from_lem Unbounded = Unbounded

-- the range that an entry intersects by rule 1 exactly if it intersects q by the rule k; a number
-- other than 2 is taken for 1
abbrev pub by_rule_lem : (rule : ℕ) (range : Span) → Span
by_rule_lem k q = record { lo = cond (eqb k 2) (whole_from_lem q.lo) q.lo; hi = q.hi }

-- the first address that a lower bound lets pass
abbrev pub first_from : (bound : Bound ℕ) → ℕ
first_from (Included x) = x
first_from (Excluded x) = x + 1
first_from Unbounded = 0

-- some whole address lies in a range; "Excluded at the greatest address as lower bound leaves
-- nothing"
abbrev pub any_whole : (low high : Bound ℕ) → Bool
any_whole b y = leb (first_from b) last && admits y (first_from b)
