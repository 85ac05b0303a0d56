use Rattle.iset.proofs.Laws.{left_fewer, unloaded-range}
use Rattle.iset.proofs.Map.unload_range.Goals as goal

pub overflow_sub-gone : goal.overflow_sub-gone
overflow_sub-gone c = search left_fewer

pub returns : goal.returns
returns c = search unloaded-range
