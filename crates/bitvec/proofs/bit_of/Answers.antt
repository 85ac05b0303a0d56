use Rattle.bitvec.proofs.Laws.{read}
use Rattle.bitvec.proofs.bit_of.Goals as goal

pub returns : goal.returns
returns c = search read
