use Rattle.iter.specs.Walk.{deeper}
use Rattle.iter.proofs.Cursor.goes_down.Goals as goal

pub returns : goal.returns
unfolding deeper
returns g c = rw (← c.goes.ensures.0)
