-- Document 02, item 10: "a point lookup that goes left below the start, right at or past the end".
-- Its refusals are those of the check: 1, 2, 14. No address is refused.
-- Letters: m map, W words, C colours, a spot, k number of a refusal, x address, y refusal
use Rattle.std.specs.Prelude.{cond, List, ℕ, eqb, Result, Ok, Err}
use Rattle.words.specs.Ix.{U}
use Rattle.words.specs.Refusals.{refusal_number}
use Rattle.words.specs.declared.refusal.Refusal.{Refusal}
use Rattle.disjoint_core.specs.Answers.{spot}
use Rattle.disjoint_core.specs.declared.point.Spot.{Spot}
use Rattle.iset.specs.Check.{count_number}
use Rattle.iset.specs.declared.Map.{Map}
use Rattle.disjoint.specs.Check.{disjoint_rule_lem}

-- the slot of the entry that holds the address, U if there is none, and the nodes entered; a
-- refusal has slot U and 0 entered
pub record PointAnswer : Type 0 where
  pub no : ℕ
  pub slot : ℕ
  pub entered : ℕ

abbrev pub point_done : (spot : Spot) → PointAnswer
point_done a = record { no = 0; slot = a.slot; entered = a.entered }

abbrev pub refused_point : (number : ℕ) → PointAnswer
refused_point k = record { no = k; slot = U; entered = 0 }

-- what the code's answer stands for
abbrev pub point_answer : (pointed : Result Spot Refusal) → PointAnswer
point_answer (Ok a) = point_done a
point_answer (Err y) = refused_point (refusal_number y)

-- a call for the address x that is refused by the number k, or not
abbrev pub point_by : (map : Map) (words : List ℕ) (address number : ℕ) → PointAnswer
point_by m W x k = cond (eqb k 0) (point_done (spot W m.count m.root x)) (refused_point k)

-- the opened call
unfoldable pub open_point_call : (map : Map) (words colours : List ℕ) (address : ℕ) → PointAnswer
open_point_call m W C x = point_by m W x (count_number m W C)

-- the public call
unfoldable pub point_call : (map : Map) (words colours : List ℕ) (address : ℕ) → PointAnswer
point_call m W C x = point_by m W x (disjoint_rule_lem m W C)
