use mathlib.Core.Path.{◌≡◌}
use Prim.Native.Nat.{◌-◌}
use Rattle.words.specs.Layouts.{as_eight}
use Rattle.iter.specs.Exact.{find}
use Rattle.iter.proofs.rules.find_index.Given as goal

abbrev pub invariant-loop : goal.invariant-loop
invariant-loop l =
    find (as_eight l.narrow l.nodes) l.count l.query 32 l.root ≡ find (as_eight l.narrow l.nodes) l.count l.query (32 - l.counter) l.at
