-- What an unloading owes, to a store that passes the check. The test g says which entries go.
-- Letters: W words, C colours, n count, r root, R sweep, g test (which entries go), e entry,
--   l entries
use Rattle.std.specs.Prelude.{◌≡◌, Bool, cond, List, [], ◌∷◌, map, ℕ, ◌+◌}
use Rattle.words.specs.Nodes.{entry}
use Rattle.words.specs.declared.node.Entry.{Entry}
use Rattle.tree.specs.Tree.{slots}
use Rattle.tree.specs.Passes.{Passes}
use Rattle.tree_edit.specs.Inside.{Inside}
use Rattle.unload_rule.specs.Sweep.{Sweep}

-- the entries that stay, in their order, and how many go
abbrev pub stay : (test : Entry → Bool) (entries : List Entry) → List Entry
stay g [] = []
stay g (e ∷ l) = cond (g e) (stay g l) (e ∷ stay g l)

abbrev pub going : (test : Entry → Bool) (entries : List Entry) → ℕ
going g [] = 0
going g (e ∷ l) = cond (g e) (going g l + 1) (going g l)

pub record Swept (W C : List ℕ) (n r : ℕ) (g : Entry → Bool) (before : Passes W C n r) (R : Sweep) : Type 0 where
  -- the store passes again
  pub passes : Passes R.store.words R.store.colours R.count R.store.root
  pub count_is : R.count + R.gone ≡ n
  -- "The rest keep their order"
  pub entries : map (entry R.store.words) (slots passes.tree) ≡ stay g (map (entry W) (slots before.tree))
  pub gone_is : R.gone ≡ going g (map (entry W) (slots before.tree))
  -- what is written lies below the old count
  pub inside : Inside n W C R.store
