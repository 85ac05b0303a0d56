use Rattle.fast.proofs.has_no_start.Goals as goal

pub returns-in-Unbounded : goal.returns-in-Unbounded
returns-in-Unbounded c = cc
