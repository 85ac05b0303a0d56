use Rattle.bitvec.specs.Bits.{bit_at}
use Rattle.bitvec.proofs.bit_at.Goals as goal

pub returns : goal.returns
unfolding bit_at
returns c = c.bit_of.ensures
