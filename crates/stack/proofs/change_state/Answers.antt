use Rattle.stack.proofs.Laws.{state_below, weighed_fits, taken_in, written, written_fits}
use Rattle.stack.proofs.change_state.Goals as goal

pub overflow_mul-rest : goal.overflow_mul-rest
overflow_mul-rest c = search (weighed_fits, state_below)

pub overflow_sub-rest : goal.overflow_sub-rest
overflow_sub-rest c = search taken_in

pub overflow_mul-result : goal.overflow_mul-result
overflow_mul-result c = search weighed_fits

pub overflow_add-result : goal.overflow_add-result
overflow_add-result c = search written_fits

pub returns : goal.returns
returns c = search written
