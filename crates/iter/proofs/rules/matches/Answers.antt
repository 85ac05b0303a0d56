use Rattle.iter.proofs.Laws.{match_overlap, match_ruled, match_exact}
use Rattle.words.proofs.Orders.{eq_by}
use Rattle.iter.proofs.rules.matches.Goals as goal

pub returns-in-Overlap : goal.returns-in-Overlap
returns-in-Overlap c = search match_overlap

pub returns-in-Ruled : goal.returns-in-Ruled
returns-in-Ruled c = search match_ruled

pub returns-in-Exact : goal.returns-in-Exact
returns-in-Exact c = search (match_exact, eq_by)
