use Prim.Native.Nat.{◌≤◌}
use Rattle.test_limits.proofs.at_home.Given as goal

abbrev pub invariant-loop-k : goal.invariant-loop-k
invariant-loop-k l = l.found ≤ l.k
