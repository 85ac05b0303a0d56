use Rattle.fast.proofs.Begins.{either_is, either_out, ruled_is, ruled_out}
use Rattle.fast.proofs.find_all.Goals as goal

pub returns-in-Overlap : goal.returns-in-Overlap
returns-in-Overlap c = (search either_is, search either_out)

pub returns-in-Ruled : goal.returns-in-Ruled
returns-in-Ruled c = (search ruled_is, search ruled_out)

pub returns-in-Exact : goal.returns-in-Exact
returns-in-Exact c = (search either_is, search either_out)
