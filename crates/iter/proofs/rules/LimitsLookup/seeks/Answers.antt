use Rattle.iter.specs.Overlap.{meets}
use Rattle.iter.proofs.rules.LimitsLookup.seeks.Goals as goal

pub returns : goal.returns
unfolding meets
returns c = rw (c.passed_by.ensures, c.admits_start.ensures, c.end_of.ensures, c.start_of.ensures)
