-- Unloading a range: the search by one way down names the first entry that intersects it. That
-- search visits at most as many nodes as the tree is high (`first_low` of first_rule).
use mathlib.Core.Path.{◌≡◌}
use mathlib.Core.List.{List}
use Prim.Native.Nat.{ℕ, ◌+◌, ◌≤◌}
use native.Mathlib.Omega.{arith}
use Rattle.words.specs.Nodes.{Holds, HoldsBits}
use Rattle.words.specs.declared.interval.Span.{Span}
use Rattle.tree.specs.Passes.{Passes}
use Rattle.tree_edit.specs.Store.{store}
use Rattle.tree_edit.specs.Inside.{Inside}
use Rattle.iter.specs.Overlap.{meets}
use Rattle.first_rule.specs.First.{first_in}
use Rattle.first_rule.proofs.Firsts.{first_in_lem}
use Rattle.unload_rule.specs.Sweep.{still}
use Rattle.unload_rule.specs.Swept.{Swept}
use Rattle.unload_rule.specs.Unload.{within, unload_rule_lem}
use Rattle.unload_rule.proofs.Sweeps.{Finds, swept}
use Rattle.unload_rule.proofs.Turns.{sweep_sum, sweep_none, sweep_inside}

pub finds_in : (q : Span) → Finds (first_in q) (within q)
unfolding meets
finds_in q W C n r small P = first_in_lem W C n r small P q

-- so what is left is exactly the entries that do not intersect the range, in their order
pub unloaded : (W C : List ℕ) (n r : ℕ) (q : Span) → n ≤ 65535 → Holds W n → HoldsBits C n → (P : Passes W C n r)
    → Swept W C n r (within q) P (unload_rule_lem W C n r q)
unfolding unload_rule_lem
unloaded W C n r q small fit bits P = swept (first_in q) (within q) (finds_in q) n W C n r (omega arith) small fit bits P

-- on any words
module _ (W C : List ℕ) (n r : ℕ) (q : Span) where
  pub unload_sum : (unload_rule_lem W C n r q).count + (unload_rule_lem W C n r q).gone ≡ n
  unfolding unload_rule_lem
  unload_sum = sweep_sum (first_in q) n (store W C r) n

  pub unload_none : (unload_rule_lem W C n r q).gone ≡ 0 → unload_rule_lem W C n r q ≡ still (store W C r) n
  unfolding unload_rule_lem
  unload_none e = sweep_none (first_in q) n (store W C r) n e

  pub unload_inside : Inside n W C (unload_rule_lem W C n r q).store
  unfolding unload_rule_lem
  unload_inside = sweep_inside (first_in q) n (store W C r) n
