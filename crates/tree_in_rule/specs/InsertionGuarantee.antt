-- What the insertion of an entry owes, to a store that passes the check and has room.
-- Letters: W words, C colours, n count, r root, e entry, x interval, S store, p parent link,
--   t store, s slot, a slot, l slots
use Rattle.std.specs.Prelude.{◌≡◌, ◌≢◌, true, not, List, ◌∷◌, ◌++◌, map, ℕ, ◌+◌}
use Rattle.words.specs.Ix.{U, on_link}
use Rattle.words.specs.Intervals.{le}
use Rattle.words.specs.Lists.{filter}
use Rattle.words.specs.Nodes.{interval, entry}
use Rattle.words.specs.declared.interval.Interval.{Interval}
use Rattle.words.specs.declared.node.Entry.{Entry}
use Rattle.bitvec.specs.Colours.{paint}
use Rattle.tree.specs.Tree.{slots}
use Rattle.tree.specs.Passes.{Passes}
use Rattle.tree_edit.specs.Links.{fix_up}
use Rattle.tree_edit.specs.Store.{Store, store}
use Rattle.tree_edit.specs.Rounds.{ending}
use Rattle.tree_in_rule.specs.Descent.{descend}
use Rattle.tree_in_rule.specs.InsertRepair.{insert_repair_lem}
use Rattle.tree_in_rule.specs.Insert.{own, hung_words, hung_root}

-- those whose interval is not greater than x, by start, then end; and those whose interval is
-- greater
abbrev pub not_greater : (words : List ℕ) (interval : Interval) (slots : List ℕ) → List ℕ
not_greater W x l = filter (λ a. le (interval W a) x) l

abbrev pub greater : (words : List ℕ) (interval : Interval) (slots : List ℕ) → List ℕ
greater W x l = filter (λ a. not (le (interval W a) x)) l

pub record InsertionGuarantee (W C : List ℕ) (n r : ℕ) (e : Entry) (before : Passes W C n r) (S : Store) : Type 0 where
  -- the store passes again, with one entry more
  pub passes : Passes S.words S.colours (n + 1) S.root
  -- in tree order the old slots are those of entries that are not greater than the new one and then
  -- those of the greater ones; slot n, which the new one is in, comes in between, after all its
  -- equals
  pub slots_were : slots before.tree ≡ not_greater W (own e) (slots before.tree) ++ greater W (own e) (slots before.tree)
  pub slots_are : slots passes.tree ≡ not_greater W (own e) (slots before.tree) ++ (n ∷ greater W (own e) (slots before.tree))
  -- and so the entries
  pub entries : map (entry S.words) (slots passes.tree)
      ≡ map (entry W) (not_greater W (own e) (slots before.tree)) ++ (e ∷ map (entry W) (greater W (own e) (slots before.tree)))
  -- "no old slot moves"
  pub entries_kept : (a : ℕ) → a ≢ n → entry S.words a ≡ entry W a
  pub entry_new : entry S.words n ≡ e

-- the rule with other numbers: so many links down at the most, so many rounds of the repair, so
-- many hulls up
unfoldable pub insert_with : (levels rounds height : ℕ) (words colours : List ℕ) (count root : ℕ)
    (entry : Entry) → Store
insert_with levels rounds height W C n r e =
    let p : ℕ = on_link n r (λ s. descend n levels W (own e) s) U in
    let t : Store = ending (insert_repair_lem (n + 1) rounds (hung_words W n e p) (paint C n true) (hung_root n r p) n) in
    store (fix_up (n + 1) height t.words n) t.colours t.root
