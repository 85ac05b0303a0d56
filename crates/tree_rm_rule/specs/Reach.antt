-- Document 02, item 9: the hulls that a removal works out, one after the other, and how many of
-- them change.
-- Letters: W words, C colours, n count, r root, s slot, l hulls, b side (true: left), ix slot,
--   P parent, S sibling, c close nephew, Z final words, x vacated slot, y child of x, v emptied
--   slot, g above v, t store, X later words
use Rattle.std.specs.Prelude.{Bool, true, not, cond, List, [], ◌++◌, ℕ, ◌-◌, eqb}
use Rattle.words.specs.Ix.{on_link}
use Rattle.words.specs.Nodes.{kid, par}
use Rattle.bitvec.specs.Colours.{red, red_at}
use Rattle.tree_edit.specs.Links.{remove_child_lem}
use Rattle.tree_rm_rule.specs.Pairs.{emptied}
use Rattle.tree_edit.specs.Rotations.{rotate_4}
use Rattle.tree_rm_rule.specs.Repair.{Case, one, two, three, four, five, choose, round}
use Rattle.tree_rm_rule.specs.Remove.{vacated, vacated', exchanged, child, restructure, handed, above, cut_words, cut_root, swap_remove_lem}
use Rattle.tree_edit.specs.Store.{Store}
use Rattle.tree_edit.specs.Reach.{Work, both_hulls, up_hulls, loop_hulls}

-- "the two worked out in removal's close-nephew case"
abbrev pub act_hulls : (count : ℕ) (case : Case) (words : List ℕ) (side : Bool)
    (parent sibling close : ℕ) → List Work
act_hulls n one W b P S c = []
act_hulls n two W b P S c = []
act_hulls n three W b P S c = []
act_hulls n four W b P S c = both_hulls n (rotate_4 n W b P S c) S c
act_hulls n five W b P S c = []

unfoldable pub round_of_hulls : (count : ℕ) (words colours : List ℕ) (parent : ℕ) (side : Bool)
    (sibling : ℕ) → List Work
round_of_hulls n W C P b S =
    act_hulls n (choose (red C P) (red C S) (red_at n C (kid W b S)) (red_at n C (kid W (not b) S))) W b P S (kid W b S)

unfoldable pub round_at_hulls : (count : ℕ) (words colours : List ℕ) (parent : ℕ) (side : Bool)
    → List Work
round_at_hulls n W C P b = on_link n (kid W (not b) P) (λ S. round_of_hulls n W C P b S) []

unfoldable pub round_hulls : (count : ℕ) (words colours : List ℕ) (slot : ℕ) → List Work
round_hulls n W C ix = on_link n (par W ix) (λ P. round_at_hulls n W C P (eqb (kid W true P) ix)) []

abbrev pub repair_hulls : (count rounds : ℕ) (words colours : List ℕ) (root slot : ℕ) → List Work
repair_hulls n rounds W C r ix = loop_hulls (round n) (round_hulls n) rounds W C r ix

unfoldable pub restructure_hulls : (count : ℕ) (words colours : List ℕ) (root vacated child : ℕ)
    → List Work
restructure_hulls n W C r x y =
    let l : List Work = repair_hulls n 36 W C r x in
    cond (red C x) [] (cond (red_at n C y) [] l)

unfoldable pub cut_hulls : (count : ℕ) (words : List ℕ) (above emptied : ℕ) → List Work
cut_hulls n W g v = on_link n g (λ s. up_hulls n 32 (remove_child_lem W s v) s) []

-- the slot x with the child y is vacated
unfoldable pub vacate_hulls : (count : ℕ) (words colours : List ℕ) (root vacated child : ℕ)
    → List Work
vacate_hulls n W C r x y =
    let t : Store = restructure n W C r x y in
    restructure_hulls n W C r x y ++ cut_hulls n (handed n t.words x y) (above n t.words x y) (emptied n x y)

-- the whole removal
unfoldable pub remove_hulls_from : (words colours : List ℕ) (count root slot vacated : ℕ) → List Work
remove_hulls_from W C n r s x = vacate_hulls n (exchanged W s x) C r x (child (exchanged W s x) x)

unfoldable pub remove_hulls : (words colours : List ℕ) (count root slot : ℕ) → List Work
remove_hulls W C n r s = remove_hulls_from W C n r s (vacated n W s)

-- and by the other reading of the doubled test
unfoldable pub remove_hulls' : (words colours : List ℕ) (count root slot : ℕ) → List Work
remove_hulls' W C n r s = remove_hulls_from W C n r s (vacated' n W s)

-- the words before the last slot moves into the emptied one
unfoldable pub cut_from : (words colours : List ℕ) (count root slot vacated : ℕ) → List ℕ
cut_from W C n r s x =
    let X : List ℕ = exchanged W s x in
    let t : Store = restructure n X C r x (child X x) in
    cut_words n (handed n t.words x (child X x)) (above n t.words x (child X x)) (emptied n x (child X x))

-- and the last step, from the words Z: the last slot moves
unfoldable pub last_step : (final words colours : List ℕ) (count root slot vacated : ℕ) → Store
last_step Z W C n r s x =
    let X : List ℕ = exchanged W s x in
    let t : Store = restructure n X C r x (child X x) in
    swap_remove_lem n Z t.colours (cut_root n t.root (above n t.words x (child X x))) (n - 1) (emptied n x (child X x))
