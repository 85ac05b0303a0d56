use Rattle.bitvec.specs.Calls.{set_rule, set_bytes}
use Rattle.words.proofs.Tests.{picked, passed}
use Rattle.bitvec.proofs.Laws.{inside}
use Rattle.bitvec.proofs.BitVec.set.Goals as goal

pub returns-then-not-has_bit : goal.returns-then-not-has_bit
unfolding set_bytes set_rule
returns-then-not-has_bit c = (search passed, search passed)

pub put_bit-requires : goal.put_bit-requires
unfolding set_bytes set_rule
put_bit-requires c = search inside

pub returns : goal.returns
unfolding set_bytes set_rule
returns c = (search picked, search picked)
