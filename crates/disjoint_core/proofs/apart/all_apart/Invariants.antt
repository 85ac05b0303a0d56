use mathlib.Core.Path.{◌≡◌}
use Rattle.words.specs.Layouts.{as_eight}
use Rattle.disjoint_rule.specs.Apart.{apart_below}
use Rattle.disjoint_core.proofs.apart.all_apart.Given as goal

abbrev pub invariant-loop-slot : goal.invariant-loop-slot
invariant-loop-slot l =
    apart_below (as_eight l.narrow l.nodes) l.count l.count ≡ apart_below (as_eight l.narrow l.nodes) l.count l.slot
