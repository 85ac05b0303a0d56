-- The rules, computed in the store of the entries [0, 5), [5, 9) and [9, 12) in the slots 0, 1 and
-- 2, with slot 1 as the root; and in document 01's store A, whose first two entries intersect.
use mathlib.Core.Path.{◌≡◌, refl}
use mathlib.Core.Bool.{true, false}
use mathlib.Core.List.{List, [], ◌∷◌}
use Prim.Native.Nat.{ℕ}
use Rattle.words.specs.Ix.{U, on_link}
use Rattle.words.specs.Nodes.{word}
use Rattle.iter.specs.Overlap.{meets}
use Rattle.first_rule.specs.Way.{way_end, way_nodes}
use Rattle.first_rule.specs.First.{past, first_past_lem, first_met_lem, first_in}
use Rattle.first_rule.proofs.Three.{three}
use Rattle.disjoint_rule.specs.Disjoint.{range_of}
use Rattle.disjoint_rule.specs.Apart.{apart_left, apart_right, apart_at, apart_below}
use Rattle.disjoint_rule.specs.Point.{only, point, point_nodes}

-- [10, 20), [10, 30), [25, 40), [40, 50) and [45, 60); slot 2 is the root, 0 is left of 1 and 3
-- left of 4
abbrev A : List ℕ
A =
    10 ∷ 20 ∷ 1 ∷ 10 ∷ 20 ∷ U ∷ U ∷ 1 ∷ 10 ∷ 30 ∷ 2 ∷ 10 ∷ 30 ∷ 0 ∷ U ∷ 2 ∷ 25 ∷ 40 ∷ 3 ∷ 10 ∷ 60 ∷ 1 ∷ 4 ∷ U ∷ 40 ∷ 50 ∷ 4 ∷ 40 ∷ 50 ∷ U ∷ U ∷ 4 ∷ 45
    ∷ 60 ∷ 5 ∷ 40 ∷ 60 ∷ 3 ∷ U ∷ 2 ∷ []

abbrev at : ℕ → ℕ
at a = point three 3 1 a

-- the first entry that intersects a new interval
abbrev met : ℕ → ℕ → ℕ
met a b = first_in (range_of (record { start = a; end = b })) three 3 1

-- to unfold this name is to unfold all that its line names
rules : Unit {0}
unfolding on_link word past way_end way_nodes first_past_lem first_met_lem first_in apart_left apart_right apart_at apart_below point point_nodes meets
rules = record {}

-- an entry may end where the next one starts; store A is not disjoint
pub three_apart : (apart_below three 3 3 ≡ true) × (apart_below A 5 5 ≡ false)
unfolding rules
three_apart = (refl, refl)

-- of the two tests at slot 1 of A the left one says no, and at slot 4 too
pub a_apart : (apart_at A 5 0 ≡ true) × (apart_left A 5 1 ≡ false) × (apart_at A 5 3 ≡ true) × (apart_left A 5 4 ≡ false)
unfolding rules
a_apart = (refl, refl, refl, refl)

-- at each start, at each end less one, and at the end of the last entry and past it
pub three_starts : (at 0 ≡ 0) × (at 5 ≡ 1) × (at 9 ≡ 2)
unfolding rules
three_starts = (refl, refl, refl)

pub three_ends : (at 4 ≡ 0) × (at 8 ≡ 1) × (at 11 ≡ 2)
unfolding rules
three_ends = (refl, refl, refl)

pub three_outside : (at 12 ≡ U) × (at 18446744073709551615 ≡ U)
unfolding rules
three_outside = (refl, refl)

-- as the general lookup has it: the entry of slot 1 holds the address 5, and that of slot 0 does
-- not
pub three_holds : (meets three (only 5) 1 ≡ true) × (meets three (only 5) 0 ≡ false)
unfolding rules
three_holds = (refl, refl)

-- the found node is entered too
pub three_entered : (point_nodes three 3 1 5 ≡ 1 ∷ []) × (point_nodes three 3 1 4 ≡ 1 ∷ 0 ∷ []) × (point_nodes three 3 1 12 ≡ 1 ∷ 2 ∷ [])
unfolding rules
three_entered = (refl, refl, refl)

-- of several entries that a new one intersects the first is named; one that only touches is not
pub three_met : (met 0 12 ≡ 0) × (met 4 6 ≡ 0) × (met 5 9 ≡ 1) × (met 8 20 ≡ 1) × (met 12 20 ≡ U)
unfolding rules
three_met = (refl, refl, refl, refl, refl)

-- so at the other side: a new one may end where the first entry of A starts
pub a_met : (first_in (range_of (record { start = 5; end = 10 })) A 5 2 ≡ U) × (first_in (range_of (record { start = 5; end = 11 })) A 5 2 ≡ 0)
unfolding rules
a_met = (refl, refl)
