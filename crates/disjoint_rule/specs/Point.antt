-- Document 02, item 10: "a point lookup that goes left below the start, right at or past the end".
-- Letters: W words, n count, r root, a address, s slot that was found
use Rattle.std.specs.Prelude.{not, ◌&&◌, List, [], ◌∷◌, ℕ, ltb}
use Rattle.words.specs.Nodes.{start, stop}
use Rattle.std.specs.declared.ops.Bound.TheVariants.{Included}
use Rattle.words.specs.declared.interval.Span.{Span}
use Rattle.iter.specs.Lists.{when}
use Rattle.first_rule.specs.Way.{WayDown, way_end, way_nodes}

-- "from Included a to Included a"
abbrev pub only : (address : ℕ) → Span
only a = record { lo = Included a; hi = Included a }

-- left below the start; not below the start and below the end, the lookup ends at the entry; else
-- right
abbrev pub point_way : (words : List ℕ) (address : ℕ) → WayDown
point_way W a = record { ends = λ s. not (ltb a (start W s)) && ltb a (stop W s); left = λ s. ltb a (start W s) }

-- From the root: the slot of the entry that holds the address, U if there is none, and the nodes
-- that the lookup enters. A tree has at most 32 nodes on a way.
unfoldable pub point : (words : List ℕ) (count root address : ℕ) → ℕ
point W n r a = way_end (point_way W a) W n 32 r

unfoldable pub point_nodes : (words : List ℕ) (count root address : ℕ) → List ℕ
point_nodes W n r a = way_nodes (point_way W a) W n 32 r

-- the list of what a lookup answers: the slot, if it is one
abbrev pub found : (count slot : ℕ) → List ℕ
found n s = when (ltb s n) (s ∷ [])
