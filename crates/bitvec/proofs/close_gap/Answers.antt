use Rattle.bitvec.proofs.Laws.{last_gap, other_gap}
use Rattle.bitvec.proofs.close_gap.Goals as goal

pub returns-then-i-len : goal.returns-then-i-len
returns-then-i-len c = search (last_gap, other_gap)

pub returns-else-i-len : goal.returns-else-i-len
returns-else-i-len c = search (last_gap, other_gap)
