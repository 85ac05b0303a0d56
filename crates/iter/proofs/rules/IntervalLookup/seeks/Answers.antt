use Rattle.iter.specs.Exact.{equals}
use Rattle.words.proofs.Orders.{eq_is}
use Rattle.iter.proofs.rules.IntervalLookup.seeks.Goals as goal

pub returns : goal.returns
unfolding equals
returns c = rw (c.eq.ensures, eq_is c.interval_of.result c.args.self, c.interval_of.ensures)
