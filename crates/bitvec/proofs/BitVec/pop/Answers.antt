use Rattle.bitvec.specs.Calls.{pop_rule}
use Rattle.words.proofs.Tests.{picked, passed}
use Rattle.bitvec.proofs.Laws.{inside_some, inside_last, done_is}
use Rattle.bitvec.proofs.BitVec.pop.Goals as goal

pub returns-then-not-has_bit : goal.returns-then-not-has_bit
unfolding pop_rule
returns-then-not-has_bit c = search passed

pub overflow_sub-len : goal.overflow_sub-len
unfolding pop_rule
overflow_sub-len c = search inside_some

pub bit_at-requires : goal.bit_at-requires
unfolding pop_rule
bit_at-requires c = search inside_last

pub overflow_sub-result : goal.overflow_sub-result
unfolding pop_rule
overflow_sub-result c = search inside_some

pub returns : goal.returns
unfolding pop_rule
returns c = search (picked, done_is)
