use mathlib.Core.Path.{◌≡◌}
use Prim.Native.Nat.{◌-◌}
use Rattle.builder.specs.Input.{every, proper_at, all_proper_lem}
use Rattle.builder.proofs.list.all_proper.Given as goal

abbrev pub invariant-loop-k : goal.invariant-loop-k
invariant-loop-k l =
    all_proper_lem l.list ≡ every (proper_at l.list) l.k (l.n - l.k)
