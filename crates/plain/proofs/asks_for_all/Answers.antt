use Rattle.plain.proofs.Asked.{all_range, all_ruled, all_exact}
use Rattle.plain.proofs.asks_for_all.Goals as goal

pub returns-in-Overlap : goal.returns-in-Overlap
returns-in-Overlap c = search all_range

pub returns-in-Ruled : goal.returns-in-Ruled
returns-in-Ruled c = search all_ruled

pub returns-in-Exact : goal.returns-in-Exact
returns-in-Exact c = search all_exact
