-- Document 02, item 10, as one statement about what the public calls of a disjoint map answer and
-- leave. `proofs/Demands` proves it. m is any map in any words and colours.
-- Letters: m map, W words, C colours, S state, a slot, x address, l calls, P proof that the store
--   passes, s slot, t tree, e entry
use Rattle.std.specs.Prelude.{◌≡◌, true, List, ℕ, ◌+◌, ◌-◌, ◌<◌, ◌≤◌, length}
use Rattle.words.specs.Ix.{U}
use Rattle.words.specs.Intervals.{intersects}
use Rattle.words.specs.Lists.{filter}
use Rattle.words.specs.Nodes.{interval, capacity}
use Rattle.words.specs.declared.node.Entry.{Entry}
use Rattle.tree.specs.Tree.{Tree, slots, height}
use Rattle.tree.specs.Passes.{Passes}
use Rattle.tree_in_rule.specs.Insert.{own}
use Rattle.iter.specs.Cursors.{fresh, ended}
use Rattle.iter.specs.Drains.{limit_of_lem, filled}
use Rattle.iter.specs.Lists.{first_or}
use Rattle.iter.specs.declared.rules.Query.TheVariants.{Overlap}
use Rattle.first_rule.specs.First.{first_nodes}
use Rattle.disjoint_rule.specs.Disjoint.{range_of, Disjoint}
use Rattle.disjoint_rule.specs.Point.{only, found}
use Rattle.iset.specs.Effects.{effect}
use Rattle.iset.specs.Insert.{insert_call}
use Rattle.iset.specs.Lookup.{step_call, drain_call}
use Rattle.iset.specs.Maps.{empty_map}
use Rattle.iset.specs.Refusals.{Rows, accept, refuse, Exactly, NoRoom, Broken, NoSuch, BadInterval}
use Rattle.iset.specs.Remove.{refused_removal, open_remove_call, remove_call}
use Rattle.iset.specs.Sequence.{State}
use Rattle.iset.specs.declared.Map.{Map}
use Rattle.disjoint.specs.Check.{disjoint_rule_lem}
use Rattle.disjoint.specs.Point.{refused_point, open_point_call, point_call}
use Rattle.disjoint.specs.Place.{refused_placement, open_place_call, place_call}
use Rattle.disjoint.specs.Take.{take_call}
use Rattle.disjoint.specs.Sequence.{Call, all_answered, all_open_answered}

-- 14: two entries intersect
abbrev pub NotDisjoint : (map : Map) (words : List ℕ) → Type 0
NotDisjoint m W = Disjoint W m.count → ⊥

-- 13: "some stored entry intersects the new one"
abbrev pub Met : (map : Map) (words : List ℕ) (entry : Entry) → Type 0
Met m W e = (a : ℕ) × (a < m.count) × (intersects (range_of (own e)) (interval W a) ≡ true)

-- "14 NotDisjoint after 2"
abbrev pub disjoint_rows : (map : Map) (words colours : List ℕ) → Rows
disjoint_rows m W C = refuse 1 (NoRoom m W C) (refuse 2 (Broken m W C) (refuse 14 (NotDisjoint m W) accept))

-- a removal: 3 after these
abbrev pub take_rows : (map : Map) (words colours : List ℕ) (slot : ℕ) → Rows
take_rows m W C s =
    refuse 1 (NoRoom m W C) (refuse 2 (Broken m W C) (refuse 14 (NotDisjoint m W) (refuse 3 (NoSuch m s) accept)))

-- An insertion into a store that the check refuses nothing of: "13 Overlap after 5 and before
-- NoRoom for a full store". 1 has a second meaning here, so the two tables are not one.
abbrev pub place_rows : (map : Map) (words colours : List ℕ) (entry : Entry) → Rows
place_rows m W C e =
    refuse 5 (BadInterval e.start e.end) (refuse 13 (Met m W e) (refuse 1 (capacity (length W) (length C) ≤ m.count) accept))

-- the first slot in tree order whose entry intersects the new one, U if there is none
abbrev pub first_meeting : (words : List ℕ) (tree : Tree) (entry : Entry) → ℕ
first_meeting W t e = first_or U (filter (λ s. intersects (range_of (own e)) (interval W s)) (slots t))

pub record Request10 (m : Map) (W C : List ℕ) : Type 0 where
  -- "It has a check of its own": 1, 2, 14
  pub check : Exactly (disjoint_rows m W C) (disjoint_rule_lem m W C)
  pub accepted : disjoint_rule_lem m W C ≡ 0 → (m.count ≤ capacity (length W) (length C)) × Passes W C m.count m.root × Disjoint W m.count
  -- the map of no entries passes
  pub empty : disjoint_rule_lem empty_map W C ≡ 0
  -- the point lookup: the same refusals, with slot U and 0 entered
  pub point_refusals : (x : ℕ) → Exactly (disjoint_rows m W C) (point_call m W C x).no
  pub point_refused : (x : ℕ) → ((point_call m W C x).no ≡ 0 → ⊥) → point_call m W C x ≡ refused_point (point_call m W C x).no
  -- "enters at most h nodes"
  pub point_low : (x : ℕ) → (point_call m W C x).no ≡ 0 → (P : Passes W C m.count m.root) → (point_call m W C x).entered ≤ height P.tree
  -- "agrees with the general lookup from Included a to Included a": its first step has the same
  -- slot, and a drain of it that may write two slots writes that slot alone, or nothing, and ends
  pub point_step : (x : ℕ) → (point_call m W C x).no ≡ 0
      → ((step_call m W C (Overlap (only x)) (fresh m.root)).no ≡ 0)
      × ((step_call m W C (Overlap (only x)) (fresh m.root)).slot ≡ (point_call m W C x).slot)
  pub point_drain : (x limit : ℕ) (out : List ℕ) → (point_call m W C x).no ≡ 0
      → (drain_call m W C (Overlap (only x)) (fresh m.root) limit out).answer.no ≡ 0 → 1 < limit_of_lem limit (length out)
      → ((drain_call m W C (Overlap (only x)) (fresh m.root) limit out).output ≡ filled (found m.count (point_call m W C x).slot) out)
      × ((drain_call m W C (Overlap (only x)) (fresh m.root) limit out).answer.hits ≡ length (found m.count (point_call m W C x).slot))
      × ((drain_call m W C (Overlap (only x)) (fresh m.root) limit out).answer.next ≡ ended)
  -- an insertion: the check's refusals first, and then 5, 13, 1
  pub place_check : (e : Entry) → (disjoint_rule_lem m W C ≡ 0 → ⊥) → (place_call m W C e).answer.no ≡ disjoint_rule_lem m W C
  pub place_refusals : (e : Entry) → disjoint_rule_lem m W C ≡ 0 → Exactly (place_rows m W C e) (place_call m W C e).answer.no
  -- "names the first such slot in tree order"; any other refusal has the slot U
  pub place_names : (e : Entry) → (place_call m W C e).answer.no ≡ 13 → (P : Passes W C m.count m.root)
      → place_call m W C e ≡ effect (refused_placement m 13 (first_meeting W P.tree e)) W C
  pub place_refused : (e : Entry) → ((place_call m W C e).answer.no ≡ 0 → ⊥) → ((place_call m W C e).answer.no ≡ 13 → ⊥)
      → place_call m W C e ≡ effect (refused_placement m (place_call m W C e).answer.no U) W C
  -- the search for an entry that intersects the new one visits at most h nodes, whatever it finds
  pub place_low : (e : Entry) → disjoint_rule_lem m W C ≡ 0 → (P : Passes W C m.count m.root)
      → length (first_nodes (range_of (own e)) W m.count m.root) ≤ height P.tree
  -- one that is not refused is that of `Map::insert`, and the store is disjoint with one entry more
  pub places : (e : Entry) → (place_call m W C e).answer.no ≡ 0
      → (place_call m W C e ≡ insert_call m W C e) × Disjoint (place_call m W C e).words (m.count + 1)
  -- a removal: 1, 2, 14, 3
  pub take_refusals : (s : ℕ) → Exactly (take_rows m W C s) (take_call m W C s).answer.no
  pub take_refused : (s : ℕ) → ((take_call m W C s).answer.no ≡ 0 → ⊥)
      → take_call m W C s ≡ effect (refused_removal m (take_call m W C s).answer.no) W C
  -- one that is not refused is that of `Map::remove`: "Removal keeps the rule"
  pub takes : (s : ℕ) → (take_call m W C s).answer.no ≡ 0
      → (take_call m W C s ≡ remove_call m W C s) × Disjoint (take_call m W C s).words (m.count - 1)
  -- over any list of calls, refused ones too, the store stays disjoint
  pub calls_sound : disjoint_rule_lem m W C ≡ 0 → (l : List Call)
      → let S : State = all_answered (record { map = m; words = W; colours = C }) l in disjoint_rule_lem S.map S.words S.colours ≡ 0
  -- the opened calls, which do not run the check, answer and leave the same, one by one and over
  -- any list of them
  pub opened_point : disjoint_rule_lem m W C ≡ 0 → (x : ℕ) → open_point_call m W C x ≡ point_call m W C x
  pub opened_place : disjoint_rule_lem m W C ≡ 0 → (e : Entry) → open_place_call m W C e ≡ place_call m W C e
  pub opened_take : disjoint_rule_lem m W C ≡ 0 → (s : ℕ) → open_remove_call m W C s ≡ take_call m W C s
  pub opened_calls : disjoint_rule_lem m W C ≡ 0 → (l : List Call)
      → all_open_answered (record { map = m; words = W; colours = C }) l ≡ all_answered (record { map = m; words = W; colours = C }) l
