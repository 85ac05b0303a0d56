use Rattle.bitvec.proofs.Laws.{written_set, written_clear, written_fits}
use Rattle.bitvec.proofs.with_bit.Goals as goal

pub overflow_add-result : goal.overflow_add-result
overflow_add-result c = search written_fits

pub returns-then-v : goal.returns-then-v
returns-then-v c = search written_set

pub returns-else-v : goal.returns-else-v
returns-else-v c = search written_clear
