use Rattle.bitvec.specs.Calls.{roomy}
use Rattle.bitvec.proofs.Laws.{byte_left}
use Rattle.bitvec.proofs.has_room.Goals as goal

pub returns : goal.returns
unfolding roomy
returns c = rw (byte_left c.args.n c.args.len)
