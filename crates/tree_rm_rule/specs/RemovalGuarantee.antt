-- What the removal of the entry of slot s owes, to a store that passes the check.
-- Letters: W words, C colours, n count, r root, s slot asked for, R removal
use Rattle.std.specs.Prelude.{◌≡◌, List, map, ℕ, ◌-◌}
use Rattle.words.specs.Nodes.{value, entry}
use Rattle.tree.specs.Tree.{slots, without}
use Rattle.tree.specs.Passes.{Passes}
use Rattle.tree_rm_rule.specs.Remove.{Removed}
use Rattle.tree_rm_rule.specs.Names.{changed, Names}

-- "The answer: removed value, new map, and up to three pairs"
pub record RemovalGuarantee (W C : List ℕ) (n r s : ℕ) (before : Passes W C n r) (R : Removed) : Type 0 where
  -- the store passes again, with one entry less
  pub passes : Passes R.store.words R.store.colours (n - 1) R.store.root
  -- its entries in tree order are those before without the removed one
  pub entries : map (entry R.store.words) (slots passes.tree) ≡ map (entry W) (without s (slots before.tree))
  -- the value is the removed entry's
  pub value_is : R.value ≡ value W s
  -- the pairs name the entries that changed slot
  pub pairs : Names n R.pairs (changed (without s (slots before.tree)) (slots passes.tree))
