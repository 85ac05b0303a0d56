-- Document 02, item 10: "Removal keeps the rule." Its refusals are 1, 2, 14, 3.
-- Letters: m map, W words, C colours, s slot
use Rattle.std.specs.Prelude.{List, ℕ}
use Rattle.iset.specs.Effects.{Effect}
use Rattle.iset.specs.Check.{first}
use Rattle.iset.specs.Remove.{open_remove_number, RemoveAnswer, remove_by}
use Rattle.iset.specs.declared.Map.{Map}
use Rattle.disjoint.specs.Check.{disjoint_rule_lem}

-- the check of this crate, and then what an opened removal of crate iset tests
unfoldable pub take_number : (map : Map) (words colours : List ℕ) (slot : ℕ) → ℕ
take_number m W C s = first (disjoint_rule_lem m W C) (open_remove_number m W C s)

-- the public call; the opened one is that of crate iset
unfoldable pub take_call : (map : Map) (words colours : List ℕ) (slot : ℕ) → Effect RemoveAnswer
take_call m W C s = remove_by m W C s (take_number m W C s)
