-- A walk upward worked out by the rule: how many hulls change. tests/model.py counts the same.
use mathlib.Core.Path.{◌≡◌, refl}
use mathlib.Core.List.{[], ◌∷◌}
use Rattle.words.specs.Ix.{U, on_link}
use Rattle.words.specs.Nodes.{word, put, put_hull_lem, joined, hull_of, altered, fix}
use Rattle.tree_edit.specs.Reach.{differs, changes, up_hulls}

-- The walk from slot 0, which holds [0, 100), is below slot 2 and has a hull that is right: it goes
-- on, and the hull of slot 2, which came up over it in a rotation, changes.
pub reach_past : changes 4 (up_hulls 4 32
    (0 ∷ 100 ∷ 1 ∷ 0 ∷ 100 ∷ U ∷ U ∷ 2 ∷
    0 ∷ 50 ∷ 2 ∷ 0 ∷ 50 ∷ U ∷ U ∷ 0 ∷
    20 ∷ 30 ∷ 3 ∷ 20 ∷ 50 ∷ 0 ∷ 3 ∷ U ∷
    40 ∷ 50 ∷ 4 ∷ 40 ∷ 50 ∷ U ∷ U ∷ 2 ∷ []) 0) ≡ 1
unfolding on_link word put put_hull_lem joined hull_of altered fix differs up_hulls
reach_past = refl
