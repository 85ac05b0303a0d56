use Rattle.iset.proofs.Lookups.{startable}
use Rattle.iset.proofs.Map.open_fresh_exact_in.Goals as goal

pub begin-requires : goal.begin-requires
begin-requires c = (startable _ _ _ _ _ c.in_ok-test_start.ensures).0
