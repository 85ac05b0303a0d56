use Rattle.fast.proofs.has_no_end.Goals as goal

pub returns-in-Excluded : goal.returns-in-Excluded
returns-in-Excluded c = cc

pub returns-in-Unbounded : goal.returns-in-Unbounded
returns-in-Unbounded c = cc
