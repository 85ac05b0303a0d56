-- What the code's answer stands for. This definition tells any two answers apart (`removal_told` of
-- proofs/Determined).
-- Letters: W words, C colours, a answer
use Rattle.std.specs.Prelude.{List, ℕ}
use Rattle.tree_edit.specs.Store.{store}
use Rattle.tree_rm_rule.specs.Remove as rule
use Rattle.tree_rm.specs.declared.remove.Removed.{Removed}

-- the whole answer of a removal, with the words and the colours that it leaves
abbrev pub removal : (answer : Removed) (words colours : List ℕ) → rule.Removed
removal a W C = record { store = store W C a.root; value = a.value; pairs = a.pairs }
