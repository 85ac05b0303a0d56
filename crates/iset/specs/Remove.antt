-- "remove 1, 2, 3": the check, then what an opened removal tests
-- Letters: m map, W words, C colours, R removal by the rule, P pairs, p pair, a kept slot, k number
--   of a refusal or changed hulls, s slot, y refusal, g answer of the code
use Rattle.std.specs.Prelude.{ℕ, ◌-◌, cond, List, ◌==◌, nat_lt, Result, Ok, Err}
use Rattle.words.specs.Ix.{U}
use Rattle.words.specs.Refusals.{refusal_number}
use Rattle.words.specs.declared.refusal.Refusal.{Refusal}
use Rattle.tree_rm_rule.specs.Pairs.{none}
use Rattle.tree_rm_rule.specs.Remove as rule
use Rattle.tree_edit.specs.Reach.{changes}
use Rattle.tree_rm_rule.specs.Reach.{remove_hulls}
use Rattle.words.specs.declared.pair.Pair.{Pair}
use Rattle.words.specs.declared.pair.Pairs.{Pairs}
use Rattle.iset.specs.Effects.{Effect, effect}
use Rattle.iset.specs.Check.{first, count_number, check_rule}
use Rattle.iset.specs.Maps.{next_map}
use Rattle.iset.specs.declared.Map.{Map}
use Rattle.iset.specs.declared.remove.Removed.{Removed}

-- the refusal's number, 0 for none, in an opened store; 3: "slot is not below count (U included)"
unfoldable pub open_remove_number : (map : Map) (words colours : List ℕ) (slot : ℕ) → ℕ
open_remove_number m W C s = first (count_number m W C) (cond (nat_lt s m.count) 0 3)

-- and of the public call
unfoldable pub remove_number : (map : Map) (words colours : List ℕ) (slot : ℕ) → ℕ
remove_number m W C s = first (check_rule m W C) (open_remove_number m W C s)

-- what it answers: "removed value, new map, and up to three pairs", and document 02, item 9: how
-- many hulls changed
pub record RemoveAnswer : Type 0 where
  pub no : ℕ
  pub value : ℕ
  pub map : Map
  pub pairs : Pairs
  pub reach : ℕ

-- a refusal: "the map .. as given .., value and counts 0, slot and pairs U", and by item 9 "a
-- refusal 0"
abbrev pub refused_removal : (map : Map) (number : ℕ) → RemoveAnswer
refused_removal m k = record { no = k; value = 0; map = m; pairs = record { first = none; second = none; third = none }; reach = 0 }

-- what the code's answer stands for
abbrev pub remove_answer : (map : Map) (removal : Result Removed Refusal) → RemoveAnswer
remove_answer m (Ok g) = record { no = 0; value = g.value; map = g.map; pairs = g.pairs; reach = g.reach }
remove_answer m (Err y) = refused_removal m (refusal_number y)

-- what the rule of removal answers, with k changed hulls
abbrev pub remove_done : (map : Map) (removal : rule.Removed) (changed : ℕ) → RemoveAnswer
remove_done m R k = record { no = 0; value = R.value; map = next_map m (m.count - 1) R.store.root; pairs = R.pairs; reach = k }

-- how many of the hulls that a removal works out change
abbrev pub remove_reach : (map : Map) (words colours : List ℕ) (slot : ℕ) → ℕ
remove_reach m W C s = changes m.count (remove_hulls W C m.count m.root s)

-- a slot that is there
abbrev pub remove_slot_lem : (map : Map) (words colours : List ℕ) (slot : ℕ) → Effect RemoveAnswer
remove_slot_lem m W C s =
    let R : rule.Removed = rule.remove_rule W C m.count m.root s in
    effect (remove_done m R (remove_reach m W C s)) R.store.words R.store.colours

-- a call that is refused by the number k, or not
abbrev pub remove_by : (map : Map) (words colours : List ℕ) (slot number : ℕ) → Effect RemoveAnswer
remove_by m W C s k = cond (k == 0) (remove_slot_lem m W C s) (effect (refused_removal m k) W C)

-- the opened call
unfoldable pub open_remove_call : (map : Map) (words colours : List ℕ) (slot : ℕ)
    → Effect RemoveAnswer
open_remove_call m W C s = remove_by m W C s (open_remove_number m W C s)

-- the public call
unfoldable pub remove_call : (map : Map) (words colours : List ℕ) (slot : ℕ) → Effect RemoveAnswer
remove_call m W C s = remove_by m W C s (remove_number m W C s)

-- the slot after the removal of slot s of the entry that was in slot a before it, by the removal's
-- pairs; U for the removed one
abbrev pub moved : (pair : Pair) (kept other : ℕ) → ℕ
moved p a other = cond (p.old == a) p.new other

unfoldable pub slot_after_lem : (pairs : Pairs) (slot kept : ℕ) → ℕ
slot_after_lem P s a = cond (a == s) U (moved P.first a (moved P.second a (moved P.third a a)))
