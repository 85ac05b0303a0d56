-- Document 02, item 14: "the planner 1, 2, 9 (short output)"; the step that accepts a proposal "15
-- BadPlan, after 2".
-- Letters: m map, W words, C colours, k number of a refusal, R store afterwards, y refusal,
--   g answer of the code
use Rattle.std.specs.Prelude.{ℕ, cond, List, length, ◌==◌, nat_le, Result, Ok, Err}
use Rattle.words.specs.Refusals.{refusal_number}
use Rattle.words.specs.declared.refusal.Refusal.{Refusal}
use Rattle.tidy_rule.specs.Plan.{fits, renamed, proposed}
use Rattle.tidy_rule.specs.Tidy.{Both, tidied}
use Rattle.iset.specs.Effects.{Effect, effect, Output, output}
use Rattle.iset.specs.Check.{first, count_number, check_rule}
use Rattle.iset.specs.Maps.{next_map}
use Rattle.iset.specs.declared.Map.{Map}

-- The planner. The refusal's number, 0 for none, in an opened store, for an output with so many
-- places; and of the public call.
unfoldable pub open_propose_number : (map : Map) (words colours : List ℕ) (places : ℕ) → ℕ
open_propose_number m W C places = first (count_number m W C) (cond (nat_le m.count places) 0 9)

unfoldable pub propose_number : (map : Map) (words colours : List ℕ) (places : ℕ) → ℕ
propose_number m W C places = first (check_rule m W C) (open_propose_number m W C places)

-- a call that is refused by the number k, or not: that number is its whole answer
abbrev pub propose_by : (map : Map) (words out : List ℕ) (number : ℕ) → Output ℕ
propose_by m W out k = cond (k == 0) (output 0 (proposed m.count W m.root out)) (output k out)

-- the opened call
unfoldable pub open_propose_call : (map : Map) (words colours out : List ℕ) → Output ℕ
open_propose_call m W C out = propose_by m W out (open_propose_number m W C (length out))

-- the public call
unfoldable pub propose_call : (map : Map) (words colours out : List ℕ) → Output ℕ
propose_call m W C out = propose_by m W out (propose_number m W C (length out))

-- The step that accepts a proposal. Its refusal's number in an opened store, and of the public
-- call.
unfoldable pub open_renumber_number : (map : Map) (words colours plan : List ℕ) → ℕ
open_renumber_number m W C plan = first (count_number m W C) (cond (fits m.count plan) 0 15)

unfoldable pub renumber_number : (map : Map) (words colours plan : List ℕ) → ℕ
renumber_number m W C plan = first (check_rule m W C) (open_renumber_number m W C plan)

-- what it answers: the new map
pub record RenumberAnswer : Type 0 where
  pub no : ℕ
  pub map : Map

-- a refusal: the map as given
abbrev pub refused_renumbering : (map : Map) (number : ℕ) → RenumberAnswer
refused_renumbering m k = record { no = k; map = m }

-- what the code's answer stands for
abbrev pub renumber_answer : (map : Map) (renumbering : Result Map Refusal) → RenumberAnswer
renumber_answer m (Ok g) = record { no = 0; map = g }
renumber_answer m (Err y) = refused_renumbering m (refusal_number y)

-- an accepted plan: "The version rises by one", also if nothing moves
abbrev pub renumber_plan_lem : (map : Map) (words colours plan : List ℕ) → Effect RenumberAnswer
renumber_plan_lem m W C plan =
    let R : Both = tidied m.count plan W C in
    effect (record { no = 0; map = next_map m m.count (renamed m.count plan m.root) }) R.words R.colours

-- a call that is refused by the number k, or not
abbrev pub renumber_by : (map : Map) (words colours plan : List ℕ) (number : ℕ)
    → Effect RenumberAnswer
renumber_by m W C plan k = cond (k == 0) (renumber_plan_lem m W C plan) (effect (refused_renumbering m k) W C)

-- the opened call
unfoldable pub open_renumber_call : (map : Map) (words colours plan : List ℕ) → Effect RenumberAnswer
open_renumber_call m W C plan = renumber_by m W C plan (open_renumber_number m W C plan)

-- the public call
unfoldable pub renumber_call : (map : Map) (words colours plan : List ℕ) → Effect RenumberAnswer
renumber_call m W C plan = renumber_by m W C plan (renumber_number m W C plan)
