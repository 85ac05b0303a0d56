use Rattle.fast.specs.Numbers.{lies_in_lem}
use Rattle.fast.proofs.WindowLookup.seeks.Goals as goal

pub returns : goal.returns
unfolding lies_in_lem
returns c = rw (c.end_of.ensures, c.start_of.ensures)
