use Rattle.image.proofs.Writes.{weight_pos, last_none, last_some}
use Rattle.image.proofs.write.put_last_bits.Goals as goal

pub nonzero_rem-out : goal.nonzero_rem-out
nonzero_rem-out c = search weight_pos

pub returns-then-count-ne0 : goal.returns-then-count-ne0
returns-then-count-ne0 c = search last_some

pub returns-else-count-ne0 : goal.returns-else-count-ne0
returns-else-count-ne0 c = search last_none
