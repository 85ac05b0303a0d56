use mathlib.Core.Path.{◌≡◌}
use Prim.Native.Nat.{◌-◌}
use Rattle.words.specs.Layouts.{as_eight}
use Rattle.plain_rule.specs.Tour.{tour}
use Rattle.tidy_rule.specs.Plan.{numbered, proposed}
use Rattle.tidy_core.proofs.planner.number_all.Given as goal

abbrev pub invariant-loop-place : goal.invariant-loop-place
invariant-loop-place l =
    proposed l.count (as_eight l.narrow l.nodes) l.root l.initial.out ≡ numbered l.place (tour l.count (l.count - l.place) (as_eight l.narrow l.nodes) l.at) l.out
