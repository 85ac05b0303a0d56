-- Document 02, item 5: "Refusals: as the drain without 7, and 9 last where the output is shorter
-- than the map's count."
-- Letters: m map, W words, C colours, q query, k number of a refusal, Q rules of the lookup
use Rattle.std.specs.Prelude.{ℕ, cond, List, length, nat_le}
use Rattle.iter.specs.Drains.{filled}
use Rattle.iter.specs.Queries.{rules}
use Rattle.iter.specs.Walk.{Rules}
use Rattle.iter.specs.declared.rules.Query.{Query}
use Rattle.plain_rule.specs.Tour as tour
use Rattle.plain.specs.Answers.{tally}
use Rattle.iset.specs.Effects.{Output}
use Rattle.iset.specs.Check.{first, check_rule}
use Rattle.iset.specs.Lookup.{open_start_number}
use Rattle.iset.specs.Tallies.{TallyAnswer, tally_by}
use Rattle.iset.specs.declared.Map.{Map}

-- the first refusal's number, 0 for none, in an opened store: of the query, then of an output with
-- so many places
unfoldable pub open_plain_number : (map : Map) (words colours : List ℕ) (query : Query) (places : ℕ)
    → ℕ
open_plain_number m W C q places = first (open_start_number m W C q) (cond (nat_le m.count places) 0 9)

-- and of the public call
unfoldable pub plain_number : (map : Map) (words colours : List ℕ) (query : Query) (places : ℕ) → ℕ
plain_number m W C q places = first (check_rule m W C) (open_plain_number m W C q places)

-- a call that is refused by the number k, or not: the hits written, the entries gone through; the
-- places of the output past the hits stay
abbrev pub plain_by : (map : Map) (words : List ℕ) (query : Query) (out : List ℕ) (number : ℕ)
    → Output TallyAnswer
plain_by m W q out k =
    let Q : Rules = rules W m.count q in
    tally_by (tally m.count W Q m.root) (filled (tour.plain m.count W Q m.root) out) out k

-- the opened call
unfoldable pub open_plain_call : (map : Map) (words colours : List ℕ) (query : Query) (out : List ℕ)
    → Output TallyAnswer
open_plain_call m W C q out = plain_by m W q out (open_plain_number m W C q (length out))

-- the public call
unfoldable pub plain_call : (map : Map) (words colours : List ℕ) (query : Query) (out : List ℕ)
    → Output TallyAnswer
plain_call m W C q out = plain_by m W q out (plain_number m W C q (length out))
