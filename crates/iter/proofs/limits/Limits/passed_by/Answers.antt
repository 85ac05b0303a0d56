use Rattle.iter.proofs.Plain.{passed_by_lem}
use Rattle.iter.proofs.limits.Limits.passed_by.Goals as goal

pub returns : goal.returns
returns c = search passed_by_lem
