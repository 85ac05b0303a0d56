use mathlib.Core.Path.{◌≡◌}
use Prim.Native.Nat.{◌-◌}
use Rattle.words.specs.Layouts.{as_eight}
use Rattle.words.specs.Intervals.{passed}
use Rattle.first_rule.specs.First.{first_past_lem}
use Rattle.first.proofs.first_past.Given as goal

abbrev pub invariant-loop : goal.invariant-loop
invariant-loop l =
    first_past_lem (passed l.lo) (as_eight l.narrow l.nodes) l.count 32 l.root ≡ first_past_lem (passed l.lo) (as_eight l.narrow l.nodes) l.count (32 - l.counter) l.at
