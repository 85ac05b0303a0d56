use Rattle.iter.proofs.ByRule.{from_after}
use Rattle.iter.proofs.ranges.whole_from.Goals as goal

pub returns-in-Excluded : goal.returns-in-Excluded
returns-in-Excluded c = cc

pub returns-in-Unbounded : goal.returns-in-Unbounded
returns-in-Unbounded c = search from_after
