use mathlib.Core.Path.{◌≡◌}
use Prim.Native.Nat.{◌+◌, ◌-◌, ◌≤◌}
use Rattle.words.specs.Layouts.{as_eight}
use Rattle.iter.specs.Walk.{seek, fuel}
use Rattle.iter.specs.Places.{Placed, Known}
use Rattle.iter.proofs.walk.Place.move_to_next.Given as goal

abbrev pub invariant-loop : goal.invariant-loop
invariant-loop g l =
    (seek (as_eight l.narrow l.nodes) l.count (g.T.Lookup.rules l.lookup (as_eight l.narrow l.nodes) l.count) (fuel l.count) l.before l.initial.place.cursor ≡ seek (as_eight l.narrow l.nodes) l.count (g.T.Lookup.rules l.lookup (as_eight l.narrow l.nodes) l.count) (fuel l.count - l.counter) l.entered l.place.cursor)
    × Placed l.count l.place.cursor × Known l.count l.place × (l.entered ≤ l.counter + 1)
