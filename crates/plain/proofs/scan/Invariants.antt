use mathlib.Core.Path.{◌≡◌}
use mathlib.Core.List.{◌++◌}
use Prim.Native.Nat.{◌+◌, ◌-◌, ◌≤◌}
use lib.ListN.{length, take, drop}
use Rattle.words.specs.Layouts.{as_eight}
use Rattle.words.specs.Lists.{filter}
use Rattle.iter.specs.Queries.{rules}
use Rattle.plain_rule.specs.Tour.{tour, entries, plain}
use Rattle.plain.proofs.scan.Given as goal

abbrev pub invariant-loop-seen : goal.invariant-loop-seen
invariant-loop-seen l =
    (plain l.count (as_eight l.narrow l.nodes) (rules (as_eight l.narrow l.nodes) l.count l.query) l.root ≡ take l.hits l.out ++ filter (rules (as_eight l.narrow l.nodes) l.count l.query).match (tour l.count (l.count - l.seen) (as_eight l.narrow l.nodes) l.at))
    × (length (entries l.count (as_eight l.narrow l.nodes) l.root) ≡ l.seen + length (tour l.count (l.count - l.seen) (as_eight l.narrow l.nodes) l.at)) × (l.hits ≤ l.seen) × (l.seen ≤ l.count) × (drop l.hits l.out ≡ drop l.hits l.initial.out) × (length l.out ≡ length l.initial.out)
