use Rattle.bitvec.specs.Calls.{allowed}
use Rattle.bitvec.proofs.has_bit.Goals as goal

pub returns : goal.returns
unfolding allowed
returns c = rw c.holds.ensures
