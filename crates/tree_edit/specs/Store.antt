-- A store: what a change of the map works on.
-- Letters: W words, C colours, r root
use Rattle.std.specs.Prelude.{List, ℕ}

-- node words, colour bytes and root
pub record Store : Type 0 where
  pub words : List ℕ
  pub colours : List ℕ
  pub root : ℕ

abbrev pub store : (words colours : List ℕ) (root : ℕ) → Store
store W C r = record { words = W; colours = C; root = r }
