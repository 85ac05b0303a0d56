use mathlib.Core.Path.{◌≡◌}
use Prim.Native.Nat.{◌-◌, ◌<◌}
use Rattle.words.specs.Layouts.{as_eight}
use Rattle.plain_rule.specs.Tour.{ascend}
use Rattle.plain.proofs.next_above.Given as goal

abbrev pub invariant-loop : goal.invariant-loop
invariant-loop l =
    (ascend l.count 32 (as_eight l.narrow l.nodes) l.slot ≡ ascend l.count (32 - l.counter) (as_eight l.narrow l.nodes) l.at) × (l.at < l.count)
