use mathlib.Core.Path.{◌≡◌}
use Prim.Native.Nat.{◌+◌, ◌-◌, ◌≤◌}
use Rattle.words.specs.Layouts.{as_eight}
use Rattle.tree_edit.specs.Links.{fix_up}
use Rattle.tree_edit.specs.Reach.{changes, up_hulls}
use Rattle.tree_links.proofs.fix_intervals_up.Given as goal

abbrev pub invariant-loop : goal.invariant-loop
invariant-loop l = record {
  rest : fix_up l.count 32 (as_eight l.narrow l.initial.nodes) l.from ≡ fix_up l.count (32 - l.counter) (as_eight l.narrow l.nodes) l.at;
  sum : changes l.count (up_hulls l.count 32 (as_eight l.narrow l.initial.nodes) l.from)
      ≡ l.reach + changes l.count (up_hulls l.count (32 - l.counter) (as_eight l.narrow l.nodes) l.at);
  small : l.reach ≤ l.counter;
}
