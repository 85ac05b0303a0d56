-- Document 02, item 9: the hulls that an insertion works out, one after the other. The new node's
-- first hull is set and not worked out.
-- Letters: W words, C colours, n count, r root, e entry, x slot at which the repair stands,
--   P parent of x, G grandparent of x, b side (true: left), S child that comes up or store,
--   p parent link
use Rattle.std.specs.Prelude.{Bool, true, not, cond, List, [], ◌++◌, ℕ, ◌+◌, eqb}
use Rattle.words.specs.Ix.{on_link}
use Rattle.words.specs.Nodes.{kid, par}
use Rattle.words.specs.declared.node.Entry.{Entry}
use Rattle.bitvec.specs.Colours.{red, red_at}
use Rattle.tree_edit.specs.Rotations.{rotate}
use Rattle.tree_edit.specs.Store.{Store}
use Rattle.tree_edit.specs.Rounds.{ending}
use Rattle.tree_edit.specs.Reach.{Work, both_hulls, up_hulls, loop_hulls}
use Rattle.tree_in_rule.specs.Descent.{under}
use Rattle.tree_in_rule.specs.InsertRepair.{rotated, insert_round, insert_repair_lem}
use Rattle.tree_in_rule.specs.Insert.{own, hung}

-- "A rotation works out the hull of the node that went down, then of the one that came up"
unfoldable pub rotated_hulls : (count : ℕ) (words : List ℕ) (side : Bool) (parent child : ℕ)
    → List Work
rotated_hulls n W b P S = both_hulls n (rotate n W b P S) P S

unfoldable pub outer_hulls : (count : ℕ) (words : List ℕ) (side : Bool) (parent grandparent : ℕ)
    → List Work
outer_hulls n W b P G = rotated_hulls n W (not b) G P

unfoldable pub inner_hulls : (count : ℕ) (words : List ℕ) (slot : ℕ) (side : Bool)
    (parent grandparent : ℕ) → List Work
inner_hulls n W x b P G = rotated_hulls n W b P x ++ outer_hulls n (rotated n W b P x) b x G

unfoldable pub insert_round_at_hulls : (count : ℕ) (words colours : List ℕ)
    (slot parent grandparent : ℕ) (side : Bool) → List Work
insert_round_at_hulls n W C x P G b =
    cond (red_at n C (kid W (not b) G)) [] (cond (eqb (kid W (not b) P) x) (inner_hulls n W x b P G) (outer_hulls n W b P G))

unfoldable pub insert_round_below_hulls : (count : ℕ) (words colours : List ℕ) (slot parent : ℕ)
    → List Work
insert_round_below_hulls n W C x P = on_link n (par W P) (λ G. insert_round_at_hulls n W C x P G (eqb (kid W true G) P)) []

unfoldable pub insert_round_hulls : (count : ℕ) (words colours : List ℕ) (slot : ℕ) → List Work
insert_round_hulls n W C x = on_link n (par W x) (λ P. cond (red C P) (insert_round_below_hulls n W C x P) []) []

abbrev pub insert_repair_hulls : (count rounds : ℕ) (words colours : List ℕ) (root slot : ℕ)
    → List Work
insert_repair_hulls n rounds W C r x = loop_hulls (insert_round n) (insert_round_hulls n) rounds W C r x

-- the repair, and "after the repair hulls are worked out from the new node to the root"
unfoldable pub insert_at_hulls : (words colours : List ℕ) (count root : ℕ) (entry : Entry)
    (parent : ℕ) → List Work
insert_at_hulls W C n r e p =
    let S : Store = hung W C n r e p in
    insert_repair_hulls (n + 1) 32 S.words S.colours S.root n
    ++ up_hulls (n + 1) 32 (ending (insert_repair_lem (n + 1) 32 S.words S.colours S.root n)).words n

unfoldable pub insert_hulls : (words colours : List ℕ) (count root : ℕ) (entry : Entry) → List Work
insert_hulls W C n r e = insert_at_hulls W C n r e (under n W r (own e))
