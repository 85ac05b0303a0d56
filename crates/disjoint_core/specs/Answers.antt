-- What the point lookup answers: the slot, and how many nodes it entered.
-- Letters: W words, n count, r root, a address
use Rattle.std.specs.Prelude.{List, ℕ, length}
use Rattle.disjoint_rule.specs.Point.{point, point_nodes}
use Rattle.disjoint_core.specs.declared.point.Spot.{Spot}

abbrev pub spot : (words : List ℕ) (count root address : ℕ) → Spot
spot W n r a = record { slot = point W n r a; entered = length (point_nodes W n r a) }
