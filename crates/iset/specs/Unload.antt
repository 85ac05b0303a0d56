-- Document 02, item 13: "Unload everything in a range .. Refusals: 1, 2, 4": the check, then the
-- range by the rule of a number (item 11), as a lookup for it tests it.
-- Letters: m map, W words, C colours, R sweep (what the rule comes to), k rule, q range, y refusal,
--   g answer of the code
use Rattle.std.specs.Prelude.{ℕ, cond, List, ◌==◌, Result, Ok, Err}
use Rattle.words.specs.Refusals.{refusal_number}
use Rattle.words.specs.declared.refusal.Refusal.{Refusal}
use Rattle.words.specs.declared.interval.Span.{Span}
use Rattle.iter.specs.Ranges.{by_rule_lem}
use Rattle.iter.specs.declared.rules.Query.TheVariants.{Ruled}
use Rattle.unload_rule.specs.Sweep.{Sweep}
use Rattle.unload_rule.specs.Unload.{unload_rule_lem}
use Rattle.iset.specs.Effects.{Effect, effect}
use Rattle.iset.specs.Lookup.{open_start_number, start_number}
use Rattle.iset.specs.Maps.{map_at, raised_by}
use Rattle.iset.specs.declared.Map.{Map}
use Rattle.iset.specs.declared.unload.Unloaded.{Unloaded}

-- the refusal's number, 0 for none, in an opened store, and of the public call
abbrev pub open_unload_number : (map : Map) (words colours : List ℕ) (rule : ℕ) (range : Span) → ℕ
open_unload_number m W C k q = open_start_number m W C (Ruled k q)

abbrev pub unload_number : (map : Map) (words colours : List ℕ) (rule : ℕ) (range : Span) → ℕ
unload_number m W C k q = start_number m W C (Ruled k q)

-- what it answers: "how many went", and the new map
pub record UnloadAnswer : Type 0 where
  pub no : ℕ
  pub gone : ℕ
  pub map : Map

-- a refusal: the map as given, and none went
abbrev pub refused_unloading : (map : Map) (number : ℕ) → UnloadAnswer
refused_unloading m number = record { no = number; gone = 0; map = m }

-- what the code's answer stands for
abbrev pub unload_answer : (map : Map) (unloading : Result Unloaded Refusal) → UnloadAnswer
unload_answer m (Ok g) = record { no = 0; gone = g.gone; map = g.map }
unload_answer m (Err y) = refused_unloading m (refusal_number y)

-- what the rule answers: "The version rises by the number removed"
abbrev pub unload_done : (map : Map) (sweep : Sweep) → UnloadAnswer
unload_done m R = record { no = 0; gone = R.gone; map = map_at R.count R.store.root (raised_by m.version R.gone) }

-- a range that is one by its rule
abbrev pub unload_range_lem : (map : Map) (words colours : List ℕ) (rule : ℕ) (range : Span)
    → Effect UnloadAnswer
unload_range_lem m W C k q =
    let R : Sweep = unload_rule_lem W C m.count m.root (by_rule_lem k q) in
    effect (unload_done m R) R.store.words R.store.colours

-- a call that is refused by a number, or not
abbrev pub unload_by : (map : Map) (words colours : List ℕ) (rule : ℕ) (range : Span)
    (number : ℕ) → Effect UnloadAnswer
unload_by m W C k q number = cond (number == 0) (unload_range_lem m W C k q) (effect (refused_unloading m number) W C)

-- the opened call
unfoldable pub open_unload_call : (map : Map) (words colours : List ℕ) (rule : ℕ) (range : Span)
    → Effect UnloadAnswer
open_unload_call m W C k q = unload_by m W C k q (open_unload_number m W C k q)

-- the public call
unfoldable pub unload_call : (map : Map) (words colours : List ℕ) (rule : ℕ) (range : Span)
    → Effect UnloadAnswer
unload_call m W C k q = unload_by m W C k q (unload_number m W C k q)
