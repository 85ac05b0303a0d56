use Rattle.words.proofs.Tests.{less, not_less}
use Rattle.iter.proofs.ranges.number_after.Goals as goal

pub returns-then-x-lt-LAST : goal.returns-then-x-lt-LAST
returns-then-x-lt-LAST c = search less

pub returns-else-x-lt-LAST : goal.returns-else-x-lt-LAST
returns-else-x-lt-LAST c = search not_less
