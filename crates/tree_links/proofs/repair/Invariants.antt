use mathlib.Core.Path.{◌≡◌}
use Prim.Native.Nat.{◌+◌, ◌-◌, ◌*◌, ◌<◌, ◌≤◌}
use Rattle.words.specs.Layouts.{as_eight}
use Rattle.tree_edit.specs.Rounds.{loop}
use Rattle.tree_edit.specs.Reach.{changes, loop_hulls}
use Rattle.tree_links.proofs.repair.Given as goal

abbrev pub invariant-loop : goal.invariant-loop
invariant-loop g l = record {
  rest : loop (g.R.Rounds.round l.count) l.rounds (as_eight l.narrow l.initial.nodes) l.initial.colours l.root l.from
      ≡ loop (g.R.Rounds.round l.count) (l.rounds - l.counter) (as_eight l.narrow l.nodes) l.colours l.top l.at;
  slot : l.at < l.count;
  sum : changes l.count (loop_hulls (g.R.Rounds.round l.count) (g.R.Rounds.hulls l.count) l.rounds (as_eight l.narrow l.initial.nodes) l.initial.colours l.root l.from)
      ≡ l.reach + changes l.count (loop_hulls (g.R.Rounds.round l.count) (g.R.Rounds.hulls l.count) (l.rounds - l.counter) (as_eight l.narrow l.nodes) l.colours l.top l.at);
  small : l.reach ≤ 4 * l.counter;
}
