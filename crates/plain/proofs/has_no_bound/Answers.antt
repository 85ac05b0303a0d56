use Rattle.plain.proofs.Asked.{both_are}
use Rattle.plain.proofs.has_no_bound.Goals as goal

pub returns : goal.returns
returns c = search both_are
