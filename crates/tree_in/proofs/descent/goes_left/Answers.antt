use Rattle.tree_in_rule.specs.Descent.{goes_left_lem}
use Rattle.words.proofs.Orders.{lt_is}
use Rattle.tree_in.proofs.descent.goes_left.Goals as goal

pub returns : goal.returns
unfolding goes_left_lem
returns c = rw (c.lt.ensures, lt_is c.args.interval c.interval_of.result, c.interval_of.ensures)
