use mathlib.Core.Path.{◌≡◌}
use Prim.Native.Nat.{◌-◌}
use Rattle.builder.specs.Input.{every, in_order_lem, sorted}
use Rattle.builder.proofs.list.sorted.Given as goal

abbrev pub invariant-loop-k : goal.invariant-loop-k
invariant-loop-k l =
    sorted l.list ≡ every (in_order_lem l.list) l.k (l.n - 1 - l.k)
