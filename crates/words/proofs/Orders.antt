-- What the derived tests of intervals answer: `==` is `eq`, `<=` is `le`, and `<` is that the other
-- is not `le`.
use Rattle.std.proofs.Common.{rules, ◌≡◌, Bool, not, ◌∙◌}
use Rattle.std.specs.Ordering.{partial_le, partial_lt}
use Rattle.words.specs.Intervals.{le, eq}
use Rattle.words.specs.declared.interval.Interval.{Interval}
use Rattle.words.specs.contracts.interval.IntervalPartialEq.TheImpl as same
use Rattle.words.specs.contracts.interval.IntervalPartialOrd.TheImpl as order

pub eq_is : (a b : Interval) → same.eq-value.it a b ≡ eq a b
eq_is a b = search rules

pub le_is : (a b : Interval) → partial_le order.partial_cmp-value.it a b ≡ le a b
le_is a b = search rules

pub lt_is : (a b : Interval) → partial_lt order.partial_cmp-value.it a b ≡ not (le b a)
lt_is a b = search rules

-- the same of what a test answered, in the form that `search` takes
pub le_by : (r : Bool) (a b : Interval) → r ≡ partial_le order.partial_cmp-value.it a b → r ≡ le a b
le_by r a b e = e ∙ le_is a b

pub eq_by : (r : Bool) (a b : Interval) → r ≡ same.eq-value.it a b → r ≡ eq a b
eq_by r a b e = e ∙ eq_is a b
