use Rattle.bitvec.specs.Calls.{swap_remove_rule, swap_remove_bytes}
use Rattle.words.proofs.Tests.{picked, passed}
use Rattle.bitvec.proofs.Laws.{inside, inside_len, inside_place, inside_some, done_is}
use Rattle.bitvec.proofs.BitVec.swap_remove.Goals as goal

pub returns-then-not-has_bit : goal.returns-then-not-has_bit
unfolding swap_remove_bytes swap_remove_rule
returns-then-not-has_bit c = (search passed, search passed)

pub bit_at-old_val-requires : goal.bit_at-old_val-requires
unfolding swap_remove_bytes swap_remove_rule
bit_at-old_val-requires c = search inside

pub close_gap-requires : goal.close_gap-requires
unfolding swap_remove_bytes swap_remove_rule
close_gap-requires c = (search inside_len, search inside_place)

pub overflow_sub-result : goal.overflow_sub-result
unfolding swap_remove_bytes swap_remove_rule
overflow_sub-result c = search inside_some

pub returns : goal.returns
unfolding swap_remove_bytes swap_remove_rule
returns c = (search (picked, done_is), search picked)
