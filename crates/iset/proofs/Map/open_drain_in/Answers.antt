use Rattle.iset.proofs.Lookups.{drainable}
use Rattle.iset.proofs.Map.open_drain_in.Goals as goal

pub drain-requires : goal.drain-requires
drain-requires c = drainable _ _ _ _ _ _ _ _ c.in_ok-test_drain.ensures _ c.limit_of.ensures
