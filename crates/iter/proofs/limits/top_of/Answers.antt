use Rattle.iter.proofs.Plain.{top_at}
use Rattle.iter.proofs.limits.top_of.Goals as goal

pub returns-in-Unbounded : goal.returns-in-Unbounded
returns-in-Unbounded c = search top_at
