use Rattle.bitvec.proofs.Laws.{bytes_hold}
use Rattle.bitvec.proofs.holds.Goals as goal

pub returns : goal.returns
returns c = search bytes_hold
