use Rattle.iter.proofs.Plain.{reached_by_lem}
use Rattle.iter.proofs.limits.Limits.reached_by.Goals as goal

pub returns : goal.returns
returns c = search reached_by_lem
