use Rattle.iter.proofs.Plain.{above_at}
use Rattle.iter.proofs.limits.is_above.Goals as goal

pub returns-in-Unbounded : goal.returns-in-Unbounded
returns-in-Unbounded c = search above_at
