use Rattle.words.specs.Layouts.{as_eight}
use Rattle.disjoint_core.proofs.Laws.{Reached}
use Rattle.disjoint_core.proofs.point.point_below.Given as goal

abbrev pub invariant-loop-entered : goal.invariant-loop-entered
invariant-loop-entered l =
    Reached (as_eight l.narrow l.nodes) l.count l.root l.address l.at l.entered
