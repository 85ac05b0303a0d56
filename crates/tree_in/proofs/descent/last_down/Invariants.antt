use Prim.Native.Nat.{◌-◌, ◌<◌}
use mathlib.Core.Path.{◌≡◌}
use Rattle.words.specs.Layouts.{as_eight}
use Rattle.tree_in_rule.specs.Descent.{descend}
use Rattle.tree_in.proofs.descent.last_down.Given as goal

abbrev pub invariant-loop : goal.invariant-loop
invariant-loop l = record {
  rest : descend l.count 32 (as_eight l.narrow l.nodes) l.interval l.top ≡ descend l.count (32 - l.counter) (as_eight l.narrow l.nodes) l.interval l.current;
  slot : l.current < l.count;
}
