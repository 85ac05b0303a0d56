-- "Slots from count up are not read": two stores with one root that agree below the count.
-- Letters: n count, S store, T other store
use Rattle.std.specs.Prelude.{◌≡◌, ℕ}
use Rattle.tree.specs.Below.{Agree, SameColours}
use Rattle.tree_edit.specs.Store.{Store}

abbrev pub Alike : (count : ℕ) (store other : Store) → Type 0
Alike n S T = Agree n S.words T.words × SameColours n S.colours T.colours × (S.root ≡ T.root)
