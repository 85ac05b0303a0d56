use Rattle.std.proofs.Common.{◌+◌, ◌*◌}
use Rattle.words.specs.Layouts.{as_eight}
use Rattle.fast.proofs.Rounds.{Going}
use Rattle.fast.proofs.+find_down_find_left.Given as goal

-- the height that is left, twice: the left part hands its own on, and the way down one less
abbrev pub decreases-find_down : goal.decreases-find_down
decreases-find_down g l = 2 * l.height

abbrev pub decreases-find_left : goal.decreases-find_left
decreases-find_left g l = 2 * l.height + 1

abbrev pub invariant-find_down-loop-left : goal.invariant-find_down-loop-left
invariant-find_down-loop-left g l =
    Going (as_eight l.narrow l.nodes) (g.T.Lookup.rules l.lookup (as_eight l.narrow l.nodes) l.count) l.count l.slot l.height l.initial.out l.initial.tally.hits l.initial.tally.entered l.out l.at l.left l.tally.hits l.tally.entered
