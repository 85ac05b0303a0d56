use Rattle.std.proofs.Common.{◌-◌}
use Rattle.builder.proofs.+init_from_sorted.Given as goal

-- the slots of the span
abbrev pub decreases-init_from_sorted : goal.decreases-init_from_sorted
decreases-init_from_sorted l = l.end - l.start
