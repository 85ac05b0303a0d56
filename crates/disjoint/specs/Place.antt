-- Document 02, item 10: "insertion there is refused exactly if some stored entry intersects the new
-- one, and names the first such slot in tree order .. 13 Overlap after 5 and before NoRoom for a
-- full store". So the order is 1 (the count is above capacity), 2, 14, 5, 13, 1 (it has reached
-- it).
-- Letters: m map, W words, C colours, n count, r root, a start, b end, s slot that was met,
--   k number of a refusal, y refusal, g answer of the code, e entry
use Rattle.std.specs.Prelude.{cond, List, ℕ, eqb, ltb, Result, Ok, Err, ⊤}
use Rattle.words.specs.Ix.{U}
use Rattle.words.specs.Refusals.{refusal_number}
use Rattle.words.specs.declared.node.Entry.{Entry}
use Rattle.words.specs.declared.refusal.Refusal.{Refusal}
use Rattle.first_rule.specs.First.{first_in}
use Rattle.disjoint_rule.specs.Disjoint.{range_of}
use Rattle.iset.specs.Effects.{Effect, effect}
use Rattle.iset.specs.Check.{first, count_number}
use Rattle.iset.specs.Insert.{open_insert_number, InsertAnswer, insert_entry_lem}
use Rattle.iset.specs.declared.Map.{Map}
use Rattle.iset.specs.declared.insert.Inserted.{Inserted}
use Rattle.disjoint.specs.Check.{disjoint_rule_lem}
use Rattle.disjoint.specs.declared.insert.Blocked.{Blocked}

-- the first slot in tree order whose entry intersects the interval from a to b, U if there is none
abbrev pub met : (words : List ℕ) (count root start end : ℕ) → ℕ
met W n r a b = first_in (range_of (record { start = a; end = b })) W n r

-- 5: "start >= end"; 13: "some stored entry intersects the new one"
unfoldable pub meet_number : (words : List ℕ) (count root start end : ℕ) → ℕ
meet_number W n r a b = cond (ltb a b) (cond (ltb (met W n r a b) n) 13 0) 5

-- in an opened store: 1 for a count above capacity, and then these
unfoldable pub trial_number : (map : Map) (words colours : List ℕ) (start end : ℕ) → ℕ
trial_number m W C a b = first (count_number m W C) (meet_number W m.count m.root a b)

-- and then what an insertion of crate iset refuses: 1 for a full store
unfoldable pub open_place_number : (map : Map) (words colours : List ℕ) (entry : Entry) → ℕ
open_place_number m W C e = first (trial_number m W C e.start e.end) (open_insert_number m W C e)

-- and of the public call
unfoldable pub place_number : (map : Map) (words colours : List ℕ) (entry : Entry) → ℕ
place_number m W C e = first (disjoint_rule_lem m W C) (open_place_number m W C e)

-- the slot that comes with the number k: 13 has the slot s that was met, and any other number U
abbrev pub named : (number slot : ℕ) → ℕ
named k s = cond (eqb k 13) s U

-- what the tests before the insertion answer
pub record TrialAnswer : Type 0 where
  pub no : ℕ
  pub slot : ℕ

abbrev pub tried : (trial : Result ⊤ Blocked) → TrialAnswer
tried (Ok _) = record { no = 0; slot = U }
tried (Err y) = record { no = refusal_number y.why; slot = y.slot }

abbrev pub trial_by : (number slot : ℕ) → TrialAnswer
trial_by k s = record { no = k; slot = named k s }

-- a refusal of crate iset as one of this crate
abbrev pub unnamed : (refusal : Refusal) → Blocked
unnamed y = record { why = y; slot = U }

-- a refusal: the map as given, the slot that it names, and by item 9 "a refusal 0"
abbrev pub refused_placement : (map : Map) (number slot : ℕ) → InsertAnswer
refused_placement m k s = record { no = k; slot = s; map = m; reach = 0 }

-- what the code's answer stands for
abbrev pub place_answer : (map : Map) (placement : Result Inserted Blocked) → InsertAnswer
place_answer m (Ok g) = record { no = 0; slot = g.slot; map = g.map; reach = g.reach }
place_answer m (Err y) = refused_placement m (refusal_number y.why) y.slot

-- a call that is refused by the number k, or not
abbrev pub place_by : (map : Map) (words colours : List ℕ) (entry : Entry) (number : ℕ)
    → Effect InsertAnswer
place_by m W C e k =
    cond (eqb k 0) (insert_entry_lem m W C e)
    (effect (refused_placement m k (named k (met W m.count m.root e.start e.end))) W C)

-- the opened call
unfoldable pub open_place_call : (map : Map) (words colours : List ℕ) (entry : Entry)
    → Effect InsertAnswer
open_place_call m W C e = place_by m W C e (open_place_number m W C e)

-- the public call
unfoldable pub place_call : (map : Map) (words colours : List ℕ) (entry : Entry)
    → Effect InsertAnswer
place_call m W C e = place_by m W C e (place_number m W C e)
