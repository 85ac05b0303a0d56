use Rattle.iset.proofs.Ones.{one_hit_is, one_hit_live, one_end_is, no_slot}
use Rattle.iset.proofs.lookup.one_hit.Goals as goal

pub returns-then-d-eq1 : goal.returns-then-d-eq1
returns-then-d-eq1 c = (search one_hit_is, search one_hit_live)

pub returns-else-d-eq1 : goal.returns-else-d-eq1
returns-else-d-eq1 c = (search one_end_is, search no_slot)
