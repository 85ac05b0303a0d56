-- The rule of the search, computed in a store of the entries [0, 5), [5, 9) and [9, 12). Slot 1 is
-- the root, with 0 on its left and 2 on its right.
use mathlib.Core.Path.{◌≡◌, refl}
use mathlib.Core.List.{List, [], ◌∷◌}
use Prim.Native.Nat.{ℕ}
use Rattle.words.specs.Ix.{U, on_link}
use Rattle.words.specs.Nodes.{word}
use Rattle.std.specs.declared.ops.Bound.{Bound}
use Rattle.std.specs.declared.ops.Bound.TheVariants.{Included, Excluded, Unbounded}
use Rattle.first_rule.specs.Way.{way_end, way_nodes}
use Rattle.first_rule.specs.First.{past, first_past_lem, first_met_lem, first_in, first_nodes}

abbrev pub three : List ℕ
three = 0 ∷ 5 ∷ 0 ∷ 0 ∷ 5 ∷ U ∷ U ∷ 1 ∷ 5 ∷ 9 ∷ 0 ∷ 0 ∷ 12 ∷ 0 ∷ 2 ∷ U ∷ 9 ∷ 12 ∷ 0 ∷ 9 ∷ 12 ∷ U ∷ U ∷ 1 ∷ []

-- the first entry that intersects the range, and the nodes on the way to it
abbrev found : Bound ℕ → Bound ℕ → ℕ
found a b = first_in (record { lo = a; hi = b }) three 3 1

abbrev nodes : Bound ℕ → Bound ℕ → List ℕ
nodes a b = first_nodes (record { lo = a; hi = b }) three 3 1

-- to unfold this name is to unfold all that its line names
first : Unit {0}
unfolding on_link word past way_end way_nodes first_past_lem first_met_lem first_in first_nodes
first = record {}

-- in each entry, and in all of them
pub three_found : (found (Included 5) (Included 5) ≡ 1) × (found (Included 11) Unbounded ≡ 2) × (found Unbounded Unbounded ≡ 0)
unfolding first
three_found = (refl, refl, refl)

-- a range that ends inside the entry that it starts in
pub three_inside : found (Included 0) (Excluded 1) ≡ 0
unfolding first
three_inside = refl

-- an end is not in its entry: the next entry is the first, if the upper bound admits its start
pub three_touched : (found (Included 5) (Excluded 10) ≡ 1) × (found (Included 9) (Excluded 10) ≡ 2) × (found (Excluded 5) (Excluded 5) ≡ U)
    × (found (Included 12) Unbounded ≡ U)
unfolding first
three_touched = (refl, refl, refl, refl)

-- one way down
pub three_way : (nodes Unbounded Unbounded ≡ 1 ∷ 0 ∷ []) × (nodes (Included 5) Unbounded ≡ 1 ∷ []) × (nodes (Included 9) Unbounded ≡ 1 ∷ 2 ∷ [])
unfolding first
three_way = (refl, refl, refl)
