use Rattle.iter.proofs.Plain.{admits_start_lem}
use Rattle.iter.proofs.limits.Limits.admits_start.Goals as goal

pub returns : goal.returns
returns c = search admits_start_lem
