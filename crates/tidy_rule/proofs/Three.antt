-- The rules computed in a store of three entries. Slot 0 is the root, with 2 on its left and 1 on
-- its right; these two are red. So the slots in tree order are 2, 0, 1, and the plan that puts them
-- in order takes 0 to 1, 1 to 2 and 2 to 0.
use mathlib.Core.Path.{◌≡◌, refl}
use mathlib.Core.Bool.{true, false}
use mathlib.Core.List.{List, [], ◌∷◌}
use Prim.Native.Nat.{ℕ}
use Rattle.words.specs.Ix.{U, on_link}
use Rattle.words.specs.Layouts.{narrowed, widened}
use Rattle.words.specs.Nodes.{word, put, put_entry_lem, put_hull_lem, put_node_lem, par}
use Rattle.bitvec.specs.Bits as Bits
use Rattle.tree.specs.Tree.{hit}
use Rattle.tree_edit.specs.Links.{leftmost}
use Rattle.plain_rule.specs.Tour.{ascend, next_of, first_of, tour, entries}
use Rattle.tidy_rule.specs.Plan.{each_once, fits, renamed, numbered, proposed}
use Rattle.tidy_rule.specs.Tidy.{rename_kid, tag_node_lem, tagged, tag, swap_nodes_lem, swap_colours_lem, settle, untag_node_lem, untagged, tidied}

-- a node in front of others, by its interval and hull, and its left, right and parent word
abbrev slot : ℕ → ℕ → ℕ → ℕ → ℕ → ℕ → ℕ → List ℕ → List ℕ
slot a b c d l r p rest = a ∷ b ∷ 9 ∷ c ∷ d ∷ l ∷ r ∷ p ∷ rest

abbrev three : List ℕ
three = slot 3 4 1 6 2 1 U (slot 5 6 5 6 U U 0 (slot 1 2 1 2 U U 0 []))

abbrev plan : List ℕ
plan = 1 ∷ 2 ∷ 0 ∷ []

-- the plan is accepted; one number more, or one that stands twice, is not
pub three_fits : fits 3 plan ≡ true
unfolding fits each_once hit
three_fits = refl

pub three_longer : fits 3 (1 ∷ 2 ∷ 0 ∷ 3 ∷ []) ≡ false
unfolding fits each_once hit
three_longer = refl

pub three_twice : fits 3 (1 ∷ 2 ∷ 1 ∷ []) ≡ false
unfolding fits each_once hit
three_twice = refl

-- it is the planner's, who leaves a fourth place as it was
pub three_proposed : proposed 3 three 0 (7 ∷ 7 ∷ 7 ∷ 7 ∷ []) ≡ 1 ∷ 2 ∷ 0 ∷ 7 ∷ []
unfolding proposed numbered entries tour next_of first_of ascend leftmost on_link word
three_proposed = refl

-- slot 1 goes to slot 2, and its parent to slot 1
pub three_tag : par (tag_node_lem 3 plan three 1) 1 ≡ 4295032833
unfolding tag_node_lem rename_kid renamed on_link narrowed widened word put
three_tag = refl

-- the nodes with their tags, and what two turns make of them
abbrev tags : List ℕ
tags = slot 3 4 1 6 0 2 4295032831 (slot 5 6 5 6 U U 4295032833 (slot 1 2 1 2 U U 1 []))

pub three_tags : tagged 3 plan 3 three ≡ tags
unfolding tagged tag_node_lem rename_kid renamed on_link narrowed widened word put
three_tags = refl

pub three_colours : (settle 1 3 0 tags (6 ∷ [])).colours ≡ 5 ∷ []
unfolding settle tag narrowed swap_colours_lem Bits.bit_at Bits.set_bit Bits.bit Bits.put word
three_colours = refl

pub three_turns : (settle 2 3 0 tags []).words ≡ slot 1 2 1 2 U U 1 (slot 3 4 1 6 0 2 4295032831 (slot 5 6 5 6 U U 4295032833 []))
unfolding settle tag narrowed swap_nodes_lem put_node_lem put_hull_lem put_entry_lem word put
three_turns = refl

-- all of it
pub three_tidied : tidied 3 plan three (6 ∷ []) ≡ record { words = slot 1 2 1 2 U U 1 (slot 3 4 1 6 0 2 U (slot 5 6 5 6 U U 1 [])); colours = 5 ∷ [] }
unfolding tidied tagged tag_node_lem rename_kid renamed on_link narrowed widened settle tag swap_nodes_lem swap_colours_lem put_node_lem put_hull_lem put_entry_lem Bits.bit_at Bits.set_bit Bits.bit Bits.put word put untag_node_lem untagged
three_tidied = refl
