use Rattle.fast.proofs.Writes.{out_of_place}
use Rattle.fast.proofs.write_at.Goals as goal

pub returns-else-place-out : goal.returns-else-place-out
returns-else-place-out c = search out_of_place
