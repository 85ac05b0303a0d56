use Rattle.fast.proofs.Bounds.{start_fits}
use Rattle.fast.proofs.last_start.Goals as goal

pub overflow_sub-result : goal.overflow_sub-result
overflow_sub-result c = search start_fits

pub returns-in-Unbounded : goal.returns-in-Unbounded
returns-in-Unbounded c = cc
