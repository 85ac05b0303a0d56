use Rattle.bitvec.specs.Calls.{get_rule}
use Rattle.words.proofs.Tests.{picked, passed}
use Rattle.bitvec.proofs.Laws.{inside, done_is}
use Rattle.bitvec.proofs.BitVec.get.Goals as goal

pub returns-then-not-has_bit : goal.returns-then-not-has_bit
unfolding get_rule
returns-then-not-has_bit c = search passed

pub bit_at-requires : goal.bit_at-requires
unfolding get_rule
bit_at-requires c = search inside

pub returns : goal.returns
unfolding get_rule
returns c = search (picked, done_is)
