-- Document 02, item 10: "It has a check of its own .. 14 NotDisjoint after 2".
-- Letters: m map, W words, C colours
use Rattle.std.specs.Prelude.{cond, List, ℕ}
use Rattle.disjoint_rule.specs.Apart.{apart_below}
use Rattle.iset.specs.Check.{first, check_rule}
use Rattle.iset.specs.declared.Map.{Map}

-- the check of the store, and then the test of each slot with its two links
unfoldable pub disjoint_rule_lem : (map : Map) (words colours : List ℕ) → ℕ
disjoint_rule_lem m W C = first (check_rule m W C) (cond (apart_below W m.count m.count) 0 14)
