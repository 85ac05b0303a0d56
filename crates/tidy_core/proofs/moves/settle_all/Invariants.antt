use mathlib.Core.Path.{◌≡◌}
use Prim.Native.Nat.{◌*◌, ◌-◌}
use Rattle.words.specs.Layouts.{as_eight}
use Rattle.tidy_rule.specs.Tidy.{settle}
use Rattle.tidy_core.proofs.moves.settle_all.Given as goal

abbrev pub invariant-loop : goal.invariant-loop
invariant-loop l =
    settle (l.count * 2) l.count 0 (as_eight l.narrow l.initial.nodes) l.initial.colours ≡ settle (l.count * 2 - l.counter) l.count l.i (as_eight l.narrow l.nodes) l.colours
