use Rattle.iter.proofs.Plain.{tests_within, tests_ruled, tests_equal}
use Rattle.iter.proofs.rules.Tests.new.Goals as goal

pub returns-in-Overlap : goal.returns-in-Overlap
returns-in-Overlap c = search tests_within

pub returns-in-Ruled : goal.returns-in-Ruled
returns-in-Ruled c = search tests_ruled

pub returns-in-Exact : goal.returns-in-Exact
returns-in-Exact c = search tests_equal
