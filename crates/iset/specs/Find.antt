-- The fast lookup finds all hits at once, and tests both ends of a hull before it enters a node. It
-- is an addition to the two documents. Its refusals are 1, 2, 4 or 5: a short output is no refusal,
-- since hits past it are counted and not written.
-- Letters: m map, W words, C colours, q query, k number of a refusal
use Rattle.std.specs.Prelude.{ℕ, List}
use Rattle.iter.specs.declared.rules.Query.{Query}
use Rattle.fast_rule.specs.Fast.{fast_hits, fitted}
use Rattle.fast.specs.Answers.{tally}
use Rattle.iset.specs.Effects.{Output}
use Rattle.iset.specs.Lookup.{open_start_number, start_number}
use Rattle.iset.specs.Tallies.{TallyAnswer, tally_by}
use Rattle.iset.specs.declared.Map.{Map}

-- a call that is refused by the number k, or not: all hits, the nodes entered; as many hits as the
-- output has places for are written, and the places past them stay
abbrev pub find_all_by : (map : Map) (words : List ℕ) (query : Query) (out : List ℕ) (number : ℕ)
    → Output TallyAnswer
find_all_by m W q out k = tally_by (tally W m.count q m.root) (fitted (fast_hits W m.count q m.root) out) out k

-- the opened call
unfoldable pub open_find_all_call : (map : Map) (words colours : List ℕ) (query : Query) (out : List ℕ)
    → Output TallyAnswer
open_find_all_call m W C q out = find_all_by m W q out (open_start_number m W C q)

-- the public call
unfoldable pub find_all_call : (map : Map) (words colours : List ℕ) (query : Query) (out : List ℕ)
    → Output TallyAnswer
find_all_call m W C q out = find_all_by m W q out (start_number m W C q)
