use Rattle.std.proofs.Common.{length, ◌-◌, ◌≤◌}
use Rattle.lines.proofs.whole.read_all.Given as goal

abbrev pub invariant-loop-at : goal.invariant-loop-at
invariant-loop-at l = l.at ≤ length l.space

abbrev pub decreases-loop-at : goal.decreases-loop-at
decreases-loop-at l = length l.initial.space - l.at
