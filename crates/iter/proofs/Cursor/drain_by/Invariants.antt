use mathlib.Core.Path.{◌≡◌}
use Prim.Native.Nat.{◌-◌, ◌≤◌}
use lib.ListN.{length, take, drop}
use Rattle.words.specs.Layouts.{as_eight}
use Rattle.iter.specs.Drains.{drain}
use Rattle.iter.specs.Limits.{tested}
use Rattle.iter.specs.Places.{Placed}
use Rattle.iter.proofs.Fills.{before}
use Rattle.iter.proofs.Cursor.drain_by.Given as goal

abbrev pub invariant-loop-hits : goal.invariant-loop-hits
invariant-loop-hits l =
    (drain (as_eight l.narrow l.nodes) l.count (tested (as_eight l.narrow l.nodes) l.count l.tests) l.limit l.initial.cursor ≡ before (take l.hits l.out) l.entered (drain (as_eight l.narrow l.nodes) l.count (tested (as_eight l.narrow l.nodes) l.count l.tests) (l.limit - l.hits) l.cursor))
    × Placed l.count l.cursor × (l.hits ≤ l.limit) × (drop l.hits l.out ≡ drop l.hits l.initial.out) × (length l.out ≡ length l.initial.out)

abbrev pub decreases-loop-hits : goal.decreases-loop-hits
decreases-loop-hits l =
    l.limit - l.hits
