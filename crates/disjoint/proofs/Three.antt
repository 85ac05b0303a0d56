-- The calls' rules, computed in the store of the entries [0, 5), [5, 9) and [9, 12) in the slots 0,
-- 1 and 2, with slot 1 as the root and all nodes black, without room and with room for one more;
-- and in a store of the entries [0, 5) and [4, 9), which intersect.
use mathlib.Core.Path.{◌≡◌, refl}
use mathlib.Core.List.{List, [], ◌∷◌, ◌++◌}
use Prim.Native.Nat.{ℕ}
use lib.ListN.{replicate}
use Rattle.words.specs.Ix.{U, on_link}
use Rattle.words.specs.Nodes.{word}
use Rattle.bitvec.specs.Bits.{bit, bit_at}
use Rattle.audit.specs.Survey.{pass, whole_of}
use Rattle.first_rule.specs.Way.{way_end, way_nodes}
use Rattle.first_rule.specs.First.{past, first_past_lem, first_met_lem, first_in}
use Rattle.first_rule.proofs.Three.{three}
use Rattle.disjoint_rule.specs.Apart.{apart_left, apart_right, apart_at, apart_below}
use Rattle.disjoint_rule.specs.Point.{point, point_nodes}
use Rattle.iset.specs.Check.{count_number, check_rule}
use Rattle.iset.specs.Insert.{entry_of, full_number, open_insert_number}
use Rattle.iset.specs.Maps.{map_of}
use Rattle.iset.specs.Remove.{open_remove_number}
use Rattle.iset.specs.declared.Map.{Map}
use Rattle.disjoint.specs.Check.{disjoint_rule_lem}
use Rattle.disjoint.specs.Point.{point_call}
use Rattle.disjoint.specs.Place.{meet_number, trial_number, open_place_number, place_number, refused_placement, place_call}
use Rattle.disjoint.specs.Take.{take_number}

abbrev m : Map
m = map_of 3 1

-- room for four
abbrev roomy : List ℕ
roomy = three ++ replicate 8 0

-- slot 1 is red, on the right of slot 0
abbrev meeting : List ℕ
meeting = 0 ∷ 5 ∷ 0 ∷ 0 ∷ 9 ∷ U ∷ 1 ∷ U ∷ 4 ∷ 9 ∷ 0 ∷ 4 ∷ 9 ∷ U ∷ U ∷ 0 ∷ []

-- the number of an insertion of a range
abbrev placing : List ℕ → ℕ → ℕ → ℕ
placing W a b = place_number m W (0 ∷ []) (entry_of a b 7)

-- to unfold this name is to unfold all that its line names
rules : Unit {0}
unfolding on_link word bit bit_at pass whole_of count_number check_rule past way_end way_nodes first_past_lem first_met_lem first_in apart_left apart_right apart_at apart_below point point_nodes full_number open_insert_number open_remove_number disjoint_rule_lem point_call meet_number trial_number open_place_number place_number place_call take_number
rules = record {}

pub three_checked : (disjoint_rule_lem m three (0 ∷ []) ≡ 0) × (disjoint_rule_lem (map_of 2 0) meeting (2 ∷ []) ≡ 14)
    × (disjoint_rule_lem (map_of 3 0) three (0 ∷ []) ≡ 2) × (disjoint_rule_lem (map_of 4 1) three (0 ∷ []) ≡ 1)
unfolding rules
three_checked = (refl, refl, refl, refl)

-- a full store with an overlap is 13, one without is 1; with room it is accepted
pub three_placed : (placing three 4 6 ≡ 13) × (placing three 12 20 ≡ 1) × (placing three 5 5 ≡ 5) × (placing roomy 12 20 ≡ 0)
unfolding rules
three_placed = (refl, refl, refl, refl)

-- the first of the entries in its way is named
pub three_named : (place_call m roomy (0 ∷ []) (entry_of 4 20 7)).answer ≡ refused_placement m 13 0
unfolding rules
three_named = refl

pub three_taken : (take_number m three (0 ∷ []) 2 ≡ 0) × (take_number m three (0 ∷ []) 3 ≡ 3) × (take_number (map_of 2 0) meeting (2 ∷ []) 9 ≡ 14)
unfolding rules
three_taken = (refl, refl, refl)

pub three_pointed : (point_call m three (0 ∷ []) 4 ≡ record { no = 0; slot = 0; entered = 2 })
    × (point_call m three (0 ∷ []) 12 ≡ record { no = 0; slot = U; entered = 2 })
    × (point_call (map_of 2 0) meeting (2 ∷ []) 4 ≡ record { no = 14; slot = U; entered = 0 })
unfolding rules
three_pointed = (refl, refl, refl)
