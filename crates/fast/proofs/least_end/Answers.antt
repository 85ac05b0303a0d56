use Rattle.fast.proofs.Bounds.{included_fits, excluded_fits}
use Rattle.fast.proofs.least_end.Goals as goal

pub overflow_add-result : goal.overflow_add-result
overflow_add-result c = search included_fits

pub overflow_add-result-in-Excluded : goal.overflow_add-result-in-Excluded
overflow_add-result-in-Excluded c = search excluded_fits

pub returns-in-Excluded : goal.returns-in-Excluded
returns-in-Excluded c = cc

pub returns-in-Unbounded : goal.returns-in-Unbounded
returns-in-Unbounded c = cc
