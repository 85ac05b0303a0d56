use mathlib.Core.Path.{◌≡◌}
use Prim.Native.Nat.{◌-◌, ◌<◌}
use Rattle.words.specs.Layouts.{as_eight}
use Rattle.tree_edit.specs.Links.{leftmost}
use Rattle.plain.proofs.lowest_left.Given as goal

abbrev pub invariant-loop : goal.invariant-loop
invariant-loop l =
    (leftmost l.count 32 (as_eight l.narrow l.nodes) l.slot ≡ leftmost l.count (32 - l.counter) (as_eight l.narrow l.nodes) l.at) × (l.at < l.count)
