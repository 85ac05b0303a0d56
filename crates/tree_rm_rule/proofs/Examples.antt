-- Removals worked out by the rule: how many hulls change. tests/model.py counts the same.
use mathlib.Core.Path.{◌≡◌, refl}
use mathlib.Core.Bool.{true}
use mathlib.Core.List.{[], ◌∷◌}
use Rattle.words.specs.Ix.{U, on_link}
use Rattle.words.specs.Nodes.{word, put, put_entry_lem, put_hull_lem, swap, joined, hull_of, altered, fix}
use Rattle.bitvec.specs.Bits.{bit, put as put_bit, bit_at, set_bit}
use Rattle.tree_edit.specs.Links.{adopt, set_child_lem, redirected, remove_child_lem, redirect, replaced, root_after, fix_up, leftmost}
use Rattle.tree_edit.specs.Rotations.{rotate, rotate_2, rotate_4}
use Rattle.tree_rm_rule.specs.Repair.{four, round_of, round_at_lem, round}
use Rattle.bitvec.specs.Colours.{paint_at}
use Rattle.tree_rm_rule.specs.Pairs.{emptied}
use Rattle.tree_rm_rule.specs.Remove.{exchanged, child, handed, above, restructure_with, vacated_with}
use Rattle.tree_edit.specs.Reach.{differs, changes, up_hulls, loop_hulls}
use Rattle.tree_rm_rule.specs.Reach.{act_hulls, round_of_hulls, round_at_hulls, round_hulls, restructure_hulls, cut_hulls, vacate_hulls, remove_hulls_from, remove_hulls}
use Rattle.tree_edit.specs.Rounds.{loop}

-- what the rows compute with
reading : Unit {0}
unfolding on_link word put put_entry_lem put_hull_lem swap joined hull_of altered fix bit put_bit bit_at set_bit
reading = record {}

repairing : Unit {0}
unfolding adopt set_child_lem redirected remove_child_lem redirect replaced root_after fix_up rotate rotate_2 rotate_4 paint_at round_of round_at_lem round loop
repairing = record {}

reaching : Unit {0}
unfolding leftmost vacated_with exchanged child restructure_with handed above emptied differs up_hulls round_of_hulls round_at_hulls round_hulls loop_hulls restructure_hulls cut_hulls vacate_hulls remove_hulls_from remove_hulls
reaching = record {}

-- [0, 5) black in slot 0, and [10, 15) red to its right. Slot 0 is removed: the entry of slot 1
-- goes there, and its hull, which stayed, changes. Had the two exchanged their hulls too, it would
-- be found as it is.
pub reach_two : changes 2 (remove_hulls
    (0 ∷ 5 ∷ 1 ∷ 0 ∷ 15 ∷ U ∷ 1 ∷ U ∷
    10 ∷ 15 ∷ 2 ∷ 10 ∷ 15 ∷ U ∷ U ∷ 0 ∷ [])
    (2 ∷ []) 2 0 0) ≡ 1
unfolding reading repairing reaching
reach_two = refl

-- The close nephew's case: slot 3 comes up over slot 2, to the right of slot 0, and both hulls
-- change.
pub reach_nephew : changes 4 (act_hulls 4 four
    (10 ∷ 20 ∷ 1 ∷ 0 ∷ 60 ∷ 1 ∷ 2 ∷ U ∷
    0 ∷ 5 ∷ 2 ∷ 0 ∷ 5 ∷ U ∷ U ∷ 0 ∷
    50 ∷ 60 ∷ 3 ∷ 30 ∷ 60 ∷ 3 ∷ U ∷ 0 ∷
    30 ∷ 40 ∷ 4 ∷ 30 ∷ 40 ∷ U ∷ U ∷ 2 ∷ []) true 0 2 3) ≡ 2
unfolding reading repairing reaching
reach_nephew = refl
