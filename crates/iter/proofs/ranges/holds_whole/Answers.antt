use Rattle.iter.proofs.ByRule.{any_included, any_excluded, any_unbounded}
use Rattle.iter.proofs.ranges.holds_whole.Goals as goal

pub returns-in-Included : goal.returns-in-Included
returns-in-Included c = search any_included

pub returns-in-Excluded : goal.returns-in-Excluded
returns-in-Excluded c = search any_excluded

pub returns-in-Unbounded : goal.returns-in-Unbounded
returns-in-Unbounded c = search any_unbounded
