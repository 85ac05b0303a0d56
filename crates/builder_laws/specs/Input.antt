-- What may be built.
-- Letters: n count, S triples, k index of a triple
use Rattle.std.specs.Prelude.{List, ℕ, suc, ◌<◌}
use Rattle.tree.specs.Order.{NotAfter}
use Rattle.builder.specs.Input.{start_of, end_of, interval_of_lem}

-- of the first n triples of S each start is below its end, and they never fall
pub record Input (S : List ℕ) (n : ℕ) : Type 0 where
  pub proper : (k : ℕ) → k < n → start_of S k < end_of S k
  pub rising : (k : ℕ) → suc k < n → NotAfter (interval_of_lem S k) (interval_of_lem S (suc k))
