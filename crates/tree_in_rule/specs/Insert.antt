-- The insertion of one entry, step by step as document 02's item 1 says it.
-- Letters: W words, C colours, n count, r root, e entry, S store, p parent link, t store, s slot
use Rattle.std.specs.Prelude.{true, List, ℕ, ◌+◌}
use Rattle.words.specs.Ix.{U, on_link}
use Rattle.words.specs.Nodes.{put_kid, put_node_lem}
use Rattle.words.specs.declared.interval.Interval.{Interval}
use Rattle.words.specs.declared.node.Entry.{Entry}
use Rattle.bitvec.specs.Colours.{paint}
use Rattle.tree_edit.specs.Links.{fix_up}
use Rattle.tree_edit.specs.Store.{Store, store}
use Rattle.tree_edit.specs.Rounds.{ending}
use Rattle.tree_in_rule.specs.Descent.{goes_left_lem, under}
use Rattle.tree_in_rule.specs.InsertRepair.{insert_repair_lem}

-- the interval of an entry
abbrev pub own : (entry : Entry) → Interval
own e = record { start = e.start; end = e.end }

-- "The new node starts with its own interval as hull": slot n, below the link word p
unfoldable pub hung_node : (words : List ℕ) (count : ℕ) (entry : Entry) (parent : ℕ) → List ℕ
hung_node W n e p = put_node_lem W n e (own e) U U p

-- "hang the new red node there in slot count"
unfoldable pub hung_words : (words : List ℕ) (count : ℕ) (entry : Entry) (parent : ℕ) → List ℕ
hung_words W n e p = on_link n p (λ s. put_kid (hung_node W n e p) (goes_left_lem W (own e) s) s n) (hung_node W n e p)

unfoldable pub hung_root : (count root parent : ℕ) → ℕ
hung_root n r p = on_link n p (λ s. r) n

unfoldable pub hung : (words colours : List ℕ) (count root : ℕ) (entry : Entry) (parent : ℕ) → Store
hung W C n r e p = store (hung_words W n e p) (paint C n true) (hung_root n r p)

-- `insert_at`: the new node hangs below the link word p, the repair starts at it, and "after the
-- repair hulls are worked out from the new node to the root"
unfoldable pub insert_at_lem : (words colours : List ℕ) (count root : ℕ) (entry : Entry) (parent : ℕ)
    → Store
insert_at_lem W C n r e p =
    let S : Store = hung W C n r e p in
    let t : Store = ending (insert_repair_lem (n + 1) 32 S.words S.colours S.root n) in
    store (fix_up (n + 1) 32 t.words n) t.colours t.root

-- `force_insert`: the new entry goes to slot n; the count is n + 1 then
unfoldable pub insert_rule : (words colours : List ℕ) (count root : ℕ) (entry : Entry) → Store
insert_rule W C n r e = insert_at_lem W C n r e (under n W r (own e))
