-- Insertions worked out by the rule: each store is the one that tests/model.py leaves, and so is
-- the sum of changed hulls.
use mathlib.Core.Path.{◌≡◌, refl}
use mathlib.Core.List.{List, [], ◌∷◌}
use Prim.Native.Nat.{ℕ, ◌+◌}
use lib.ListN.{replicate}
use Rattle.words.specs.Ix.{U, on_link}
use Rattle.words.specs.Nodes.{word, put, put_entry_lem, put_hull_lem, joined, hull_of, altered, fix, put_node_lem}
use Rattle.words.specs.declared.node.Entry.{Entry}
use Rattle.bitvec.specs.Bits.{bit, put as put_bit, bit_at, set_bit}
use Rattle.tree_edit.specs.Links.{adopt, set_child_lem, redirected, redirect, replaced, root_after, fix_up}
use Rattle.tree_edit.specs.Rotations.{rotate}
use Rattle.tree_edit.specs.Store.{Store, store}
use Rattle.tree_edit.specs.Reach.{differs, changes, up_hulls, loop_hulls}
use Rattle.tree_in_rule.specs.Descent.{goes_left_lem, descend, under}
use Rattle.tree_in_rule.specs.InsertRepair.{rotated, outer, inner, recoloured, insert_round_at, insert_round_below, insert_round}
use Rattle.tree_in_rule.specs.Insert.{hung_node, hung_words, hung_root, hung, insert_at_lem, insert_rule}
use Rattle.tree_in_rule.specs.Reach.{rotated_hulls, outer_hulls, inner_hulls, insert_round_at_hulls, insert_round_below_hulls, insert_round_hulls, insert_at_hulls, insert_hulls}
use Rattle.tree_edit.specs.Rounds.{loop}

-- what the rows compute with
reading : Unit {0}
unfolding on_link word put put_entry_lem put_hull_lem joined hull_of fix put_node_lem bit put_bit bit_at set_bit
reading = record {}

linking : Unit {0}
unfolding adopt set_child_lem redirected redirect replaced root_after fix_up rotate
linking = record {}

inserting : Unit {0}
unfolding goes_left_lem descend under rotated outer inner recoloured insert_round_at insert_round_below insert_round loop hung_node hung_words hung_root hung insert_at_lem insert_rule
inserting = record {}

reaching : Unit {0}
unfolding altered differs up_hulls rotated_hulls outer_hulls inner_hulls insert_round_at_hulls insert_round_below_hulls insert_round_hulls loop_hulls insert_at_hulls insert_hulls
reaching = record {}

abbrev entry_of : ℕ → ℕ → ℕ → Entry
entry_of a b v = record { start = a; end = b; value = v }

-- an empty map in so many words
abbrev empty : ℕ → Store
empty m = store (replicate m 0) (0 ∷ []) U

-- the store after each entry of a list is inserted into one of n entries
abbrev filled : Store → ℕ → List Entry → Store
filled S n [] = S
filled S n (e ∷ l) = filled (insert_rule S.words S.colours n S.root e) (n + 1) l

-- store A of document 01, with room for two more
abbrev store_a : Store
store_a =
    store
    (10 ∷ 20 ∷ 1 ∷ 10 ∷ 20 ∷ U ∷ U ∷ 1 ∷
    10 ∷ 30 ∷ 2 ∷ 10 ∷ 30 ∷ 0 ∷ U ∷ 2 ∷
    25 ∷ 40 ∷ 3 ∷ 10 ∷ 60 ∷ 1 ∷ 4 ∷ U ∷
    40 ∷ 50 ∷ 4 ∷ 40 ∷ 50 ∷ U ∷ U ∷ 4 ∷
    45 ∷ 60 ∷ 5 ∷ 40 ∷ 60 ∷ 3 ∷ U ∷ 2 ∷
    0 ∷ 0 ∷ 0 ∷ 0 ∷ 0 ∷ 0 ∷ 0 ∷ 0 ∷
    0 ∷ 0 ∷ 0 ∷ 0 ∷ 0 ∷ 0 ∷ 0 ∷ 0 ∷ [])
    (9 ∷ []) 2

-- the first entry of an empty map: root, and black
pub first_entry : filled (empty 16) 0 (entry_of 5 9 1 ∷ []) ≡ store
    (5 ∷ 9 ∷ 1 ∷ 5 ∷ 9 ∷ U ∷ U ∷ U ∷
    0 ∷ 0 ∷ 0 ∷ 0 ∷ 0 ∷ 0 ∷ 0 ∷ 0 ∷ [])
    (0 ∷ []) 0
unfolding reading linking inserting
first_entry = refl

-- an equal one hangs to the right of it
pub equal_entry : filled (empty 16) 0 (entry_of 5 9 1 ∷ entry_of 5 9 2 ∷ []) ≡ store
    (5 ∷ 9 ∷ 1 ∷ 5 ∷ 9 ∷ U ∷ 1 ∷ U ∷
    5 ∷ 9 ∷ 2 ∷ 5 ∷ 9 ∷ U ∷ U ∷ 0 ∷ [])
    (2 ∷ []) 0
unfolding reading linking inserting
equal_entry = refl

-- an outer child: one rotation
pub outer_child : filled (empty 24) 0 (entry_of 1 2 1 ∷ entry_of 3 4 2 ∷ entry_of 5 6 3 ∷ []) ≡ store
    (1 ∷ 2 ∷ 1 ∷ 1 ∷ 2 ∷ U ∷ U ∷ 1 ∷
    3 ∷ 4 ∷ 2 ∷ 1 ∷ 6 ∷ 0 ∷ 2 ∷ U ∷
    5 ∷ 6 ∷ 3 ∷ 5 ∷ 6 ∷ U ∷ U ∷ 1 ∷ [])
    (5 ∷ []) 1
unfolding reading linking inserting
outer_child = refl

-- an inner child: two rotations
pub inner_child : filled (empty 24) 0 (entry_of 1 2 1 ∷ entry_of 5 6 2 ∷ entry_of 3 4 3 ∷ []) ≡ store
    (1 ∷ 2 ∷ 1 ∷ 1 ∷ 2 ∷ U ∷ U ∷ 2 ∷
    5 ∷ 6 ∷ 2 ∷ 5 ∷ 6 ∷ U ∷ U ∷ 2 ∷
    3 ∷ 4 ∷ 3 ∷ 1 ∷ 6 ∷ 0 ∷ 1 ∷ U ∷ [])
    (3 ∷ []) 2
unfolding reading linking inserting
inner_child = refl

-- a red uncle: recoloured
pub red_uncle : filled (empty 32) 0 (entry_of 3 4 1 ∷ entry_of 1 2 2 ∷ entry_of 5 6 3 ∷ entry_of 7 8 4 ∷ []) ≡ store
    (3 ∷ 4 ∷ 1 ∷ 1 ∷ 8 ∷ 1 ∷ 2 ∷ U ∷
    1 ∷ 2 ∷ 2 ∷ 1 ∷ 2 ∷ U ∷ U ∷ 0 ∷
    5 ∷ 6 ∷ 3 ∷ 5 ∷ 8 ∷ U ∷ 3 ∷ 0 ∷
    7 ∷ 8 ∷ 4 ∷ 7 ∷ 8 ∷ U ∷ U ∷ 2 ∷ [])
    (8 ∷ []) 0
unfolding reading linking inserting
red_uncle = refl

-- an interval equal to one of store A: right of it, and red
pub equal_in_A : filled store_a 5 (entry_of 10 30 6 ∷ []) ≡ store
    (10 ∷ 20 ∷ 1 ∷ 10 ∷ 20 ∷ U ∷ U ∷ 1 ∷
    10 ∷ 30 ∷ 2 ∷ 10 ∷ 30 ∷ 0 ∷ 5 ∷ 2 ∷
    25 ∷ 40 ∷ 3 ∷ 10 ∷ 60 ∷ 1 ∷ 4 ∷ U ∷
    40 ∷ 50 ∷ 4 ∷ 40 ∷ 50 ∷ U ∷ U ∷ 4 ∷
    45 ∷ 60 ∷ 5 ∷ 40 ∷ 60 ∷ 3 ∷ U ∷ 2 ∷
    10 ∷ 30 ∷ 6 ∷ 10 ∷ 30 ∷ U ∷ U ∷ 1 ∷
    0 ∷ 0 ∷ 0 ∷ 0 ∷ 0 ∷ 0 ∷ 0 ∷ 0 ∷ [])
    (41 ∷ []) 2
unfolding reading linking inserting
equal_in_A = refl

-- below a red node with a red uncle, in the midst of store A
pub uncle_in_A : filled store_a 5 (entry_of 10 30 6 ∷ entry_of 10 25 7 ∷ []) ≡ store
    (10 ∷ 20 ∷ 1 ∷ 10 ∷ 25 ∷ U ∷ 6 ∷ 1 ∷
    10 ∷ 30 ∷ 2 ∷ 10 ∷ 30 ∷ 0 ∷ 5 ∷ 2 ∷
    25 ∷ 40 ∷ 3 ∷ 10 ∷ 60 ∷ 1 ∷ 4 ∷ U ∷
    40 ∷ 50 ∷ 4 ∷ 40 ∷ 50 ∷ U ∷ U ∷ 4 ∷
    45 ∷ 60 ∷ 5 ∷ 40 ∷ 60 ∷ 3 ∷ U ∷ 2 ∷
    10 ∷ 30 ∷ 6 ∷ 10 ∷ 30 ∷ U ∷ U ∷ 1 ∷
    10 ∷ 25 ∷ 7 ∷ 10 ∷ 25 ∷ U ∷ U ∷ 0 ∷ [])
    (74 ∷ []) 2
unfolding reading linking inserting
uncle_in_A = refl

-- how many hulls change: [12, 14) goes between [10, 15) red and [20, 30), by two rotations. The
-- hulls of slots 1 and 2, then those of slots 0 and 2: all but that of slot 1; and none on the way
-- up.
pub inner_reach : changes 3 (insert_hulls
    (20 ∷ 30 ∷ 1 ∷ 10 ∷ 30 ∷ 1 ∷ U ∷ U ∷
    10 ∷ 15 ∷ 2 ∷ 10 ∷ 15 ∷ U ∷ U ∷ 0 ∷
    0 ∷ 0 ∷ 0 ∷ 0 ∷ 0 ∷ 0 ∷ 0 ∷ 0 ∷ [])
    (2 ∷ []) 2 0 (entry_of 12 14 3)) ≡ 3
unfolding reading linking inserting reaching
inner_reach = refl
