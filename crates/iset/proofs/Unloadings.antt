-- What an unloading guarantees: what it leaves passes the check, and holds exactly the entries that
-- do not intersect the range, in their order.
use Rattle.std.proofs.Common.{◌≡◌, ℕ, ◌≤◌, Bool, true, false, cond, eqb, List, length, refl, ap, arith, eq-eqb}
use Rattle.words.specs.Nodes.{capacity}
use Rattle.words.specs.declared.interval.Span.{Span}
use Rattle.tree.specs.Passes.{Passes}
use Rattle.iter.specs.Ranges.{by_rule_lem}
use Rattle.iter.specs.declared.rules.Query.TheVariants.{Ruled}
use Rattle.unload_rule.specs.Sweep.{Sweep}
use Rattle.unload_rule.specs.Swept.{Swept}
use Rattle.unload_rule.specs.Unload.{within, unload_rule_lem}
use Rattle.unload_rule.proofs.Ranges.{unloaded, unload_none}
use Rattle.iset.specs.Effects.{Effect, effect}
use Rattle.iset.specs.Check.{check_rule}
use Rattle.iset.specs.Lookup.{query_number}
use Rattle.iset.specs.Unload.{unload_number, UnloadAnswer, refused_unloading, unload_range_lem, unload_call}
use Rattle.iset.specs.declared.Map.{Map}
use Rattle.iset.proofs.Checks.{check_zero}
use Rattle.iset.proofs.Lookups.{start_accepts}

module _ (m : Map) (W C : List ℕ) (k : ℕ) (q : Span) where
  -- what a call that is not refused has passed
  pub accepts : unload_number m W C k q ≡ 0 → (check_rule m W C ≡ 0) × (query_number (Ruled k q) ≡ 0)
  accepts e = start_accepts m W C (Ruled k q) e

  pub unload_call_lem : unload_number m W C k q ≡ 0 → unload_call m W C k q ≡ unload_range_lem m W C k q
  unfolding unload_call
  unload_call_lem e = rw (eq-eqb (unload_number m W C k q) 0 e)

  pub by_rule_law : check_rule m W C ≡ 0 → (P : Passes W C m.count m.root)
      → Swept W C m.count m.root (within (by_rule_lem k q)) P (unload_rule_lem W C m.count m.root (by_rule_lem k q))
  by_rule_law e P =
      let h : m.count ≤ capacity (length W) (length C) = (check_zero m W C e).0 in
      unloaded W C m.count m.root (by_rule_lem k q) (omega arith) (omega arith) (omega arith) P

  -- none went: the words are as they were
  pub unload_words : (unload_call m W C k q).answer.gone ≡ 0 → (unload_call m W C k q).words ≡ W
  unfolding unload_call
  unload_words e = go (eqb (unload_number m W C k q) 0) e
    where
      c : Bool → Effect UnloadAnswer
      c t = cond t (unload_range_lem m W C k q) (effect (refused_unloading m (unload_number m W C k q)) W C)

      go : (t : Bool) → (c t).answer.gone ≡ 0 → (c t).words ≡ W
      go true z = ap (λ (R : Sweep). R.store.words) (unload_none W C m.count m.root (by_rule_lem k q) z)
      go false z = refl
