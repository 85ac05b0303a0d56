use Rattle.bitvec.proofs.Laws.{byte_put}
use Rattle.bitvec.specs.Bits.{set_bit}
use Rattle.bitvec.proofs.put_bit.Goals as goal

pub returns : goal.returns
unfolding set_bit
returns c = search byte_put
