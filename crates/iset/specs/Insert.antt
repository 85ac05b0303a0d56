-- Document 02, item 1: "in the order 1, 2, 5"
-- Letters: m map, W words, C colours, a start, b end, v value, S store, k number of a refusal or
--   changed hulls, e entry, y refusal, g answer of the code
use Rattle.std.specs.Prelude.{ℕ, ◌+◌, cond, List, length, ◌==◌, nat_lt, Result, Ok, Err}
use Rattle.words.specs.Ix.{U}
use Rattle.words.specs.Nodes.{capacity}
use Rattle.words.specs.Refusals.{refusal_number}
use Rattle.words.specs.declared.refusal.Refusal.{Refusal}
use Rattle.words.specs.declared.node.Entry.{Entry}
use Rattle.tree_edit.specs.Store.{Store}
use Rattle.tree_edit.specs.Reach.{changes}
use Rattle.tree_in_rule.specs.Insert.{insert_rule}
use Rattle.tree_in_rule.specs.Reach.{insert_hulls}
use Rattle.iset.specs.Effects.{Effect, effect}
use Rattle.iset.specs.Check.{first, check_rule}
use Rattle.iset.specs.Maps.{next_map}
use Rattle.iset.specs.declared.Map.{Map}
use Rattle.iset.specs.declared.insert.Inserted.{Inserted}

abbrev pub entry_of : (start end value : ℕ) → Entry
entry_of a b v = record { start = a; end = b; value = v }

-- 1: "NoRoom now when count has reached capacity, .. with a count above capacity also 1"
unfoldable pub full_number : (map : Map) (words colours : List ℕ) → ℕ
full_number m W C = cond (nat_lt m.count (capacity (length W) (length C))) 0 1

-- the refusal's number, 0 for none, in an opened store; 5: "start >= end"
unfoldable pub open_insert_number : (map : Map) (words colours : List ℕ) (entry : Entry) → ℕ
open_insert_number m W C e = first (full_number m W C) (cond (nat_lt e.start e.end) 0 5)

-- and of the public call: a full store is refused before the check, the rest after it
unfoldable pub room_then_check : (map : Map) (words colours : List ℕ) → ℕ
room_then_check m W C = first (full_number m W C) (check_rule m W C)

unfoldable pub insert_number : (map : Map) (words colours : List ℕ) (entry : Entry) → ℕ
insert_number m W C e = first (room_then_check m W C) (open_insert_number m W C e)

-- what it answers: the slot of the new entry, the new map, and by item 9 how many hulls changed
pub record InsertAnswer : Type 0 where
  pub no : ℕ
  pub slot : ℕ
  pub map : Map
  pub reach : ℕ

-- a refusal: "the map .. as given .., slot .. U", and by item 9 "a refusal 0"
abbrev pub refused_insertion : (map : Map) (number : ℕ) → InsertAnswer
refused_insertion m k = record { no = k; slot = U; map = m; reach = 0 }

-- what the code's answer stands for
abbrev pub insert_answer : (map : Map) (insertion : Result Inserted Refusal) → InsertAnswer
insert_answer m (Ok g) = record { no = 0; slot = g.slot; map = g.map; reach = g.reach }
insert_answer m (Err y) = refused_insertion m (refusal_number y)

-- what the rule of insertion answers, with k changed hulls: "slot count is always the next one"
abbrev pub insert_done : (map : Map) (store : Store) (changed : ℕ) → InsertAnswer
insert_done m S k = record { no = 0; slot = m.count; map = next_map m (m.count + 1) S.root; reach = k }

-- how many of the hulls that an insertion works out change
abbrev pub insert_reach : (map : Map) (words colours : List ℕ) (entry : Entry) → ℕ
insert_reach m W C e = changes (m.count + 1) (insert_hulls W C m.count m.root e)

-- an entry that there is room for
abbrev pub insert_entry_lem : (map : Map) (words colours : List ℕ) (entry : Entry) → Effect InsertAnswer
insert_entry_lem m W C e =
    let S : Store = insert_rule W C m.count m.root e in
    effect (insert_done m S (insert_reach m W C e)) S.words S.colours

-- a call that is refused by the number k, or not
abbrev pub insert_by : (map : Map) (words colours : List ℕ) (entry : Entry) (number : ℕ)
    → Effect InsertAnswer
insert_by m W C e k = cond (k == 0) (insert_entry_lem m W C e) (effect (refused_insertion m k) W C)

-- the opened call
unfoldable pub open_insert_call : (map : Map) (words colours : List ℕ) (entry : Entry)
    → Effect InsertAnswer
open_insert_call m W C e = insert_by m W C e (open_insert_number m W C e)

-- the public call
unfoldable pub insert_call : (map : Map) (words colours : List ℕ) (entry : Entry)
    → Effect InsertAnswer
insert_call m W C e = insert_by m W C e (insert_number m W C e)
