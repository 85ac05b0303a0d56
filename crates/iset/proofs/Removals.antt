-- What a removal guarantees: it is refused exactly as document 01's table says, and what it leaves
-- passes the check, holds the other entries in their order, and names exactly those that changed
-- slot.
use Rattle.std.proofs.Common.{◌≡◌, ℕ, ◌<◌, ◌≤◌, Bool, true, false, cond, ltb, List, length, refl, arith, ltb-true, le-ltb, lt-ltb, ne_eqb}
use Rattle.words.specs.Nodes.{capacity}
use Rattle.tree.specs.Passes.{Passes}
use Rattle.tree_rm_rule.specs.Remove.{remove_rule}
use Rattle.tree_rm_rule.specs.RemovalGuarantee.{RemovalGuarantee}
use Rattle.tree_rm_rule.proofs.Removal.{removed}
use Rattle.iset.specs.Check.{count_number, check_rule}
use Rattle.iset.specs.Remove.{open_remove_number, remove_number}
use Rattle.iset.specs.declared.Map.{Map}
use Rattle.iset.proofs.Checks.{both_zero, check_zero, count_zero, checked_count}

module _ (m : Map) (W C : List ℕ) (s : ℕ) where
  -- the check's refusals come first
  pub check_first : (check_rule m W C ≡ 0 → ⊥) → remove_number m W C s ≡ check_rule m W C
  unfolding remove_number
  check_first d = rw (ne_eqb (check_rule m W C) 0 d)

  -- 3 exactly if the store passes and the slot is not below the count
  pub no_such : check_rule m W C ≡ 0 → m.count ≤ s → remove_number m W C s ≡ 3
  unfolding remove_number open_remove_number
  no_such e h = rw (e, checked_count m W C e, le-ltb s m.count h)

  pub accepted : check_rule m W C ≡ 0 → s < m.count → remove_number m W C s ≡ 0
  unfolding remove_number open_remove_number
  accepted e h = rw (e, checked_count m W C e, lt-ltb s m.count h)

  pub open_accepts : open_remove_number m W C s ≡ 0 → (m.count ≤ capacity (length W) (length C)) × (s < m.count)
  unfolding open_remove_number
  open_accepts e =
      let z : (count_number m W C ≡ 0) × (◌≡◌ {A = ℕ} (cond (ltb s m.count) 0 3) 0) = both_zero (count_number m W C) (cond (ltb s m.count) 0 3) e in
      (count_zero m W C z.0, go (ltb s m.count) refl z.1)
    where
      go : (b : Bool) → ltb s m.count ≡ b → ◌≡◌ {A = ℕ} (cond b 0 3) 0 → s < m.count
      go true f y = ltb-true s m.count f
      go false f y = absurd (omega arith)

  pub accepts : remove_number m W C s ≡ 0 → (check_rule m W C ≡ 0) × (s < m.count)
  unfolding remove_number
  accepts e =
      let z : (check_rule m W C ≡ 0) × (open_remove_number m W C s ≡ 0) = both_zero (check_rule m W C) (open_remove_number m W C s) e in
      (z.0, (open_accepts z.1).1)

  -- the tree of the store that an accepted removal was made in
  pub tree_before : remove_number m W C s ≡ 0 → Passes W C m.count m.root
  tree_before e = (check_zero m W C (accepts e).0).1

  -- what the rule gives; `removes` of Demands says it of the call
  pub by_rule_law : (e : remove_number m W C s ≡ 0) → RemovalGuarantee W C m.count m.root s (tree_before e) (remove_rule W C m.count m.root s)
  by_rule_law e =
      let h : m.count ≤ capacity (length W) (length C) = (check_zero m W C (accepts e).0).0 in
      removed W C m.count m.root s (omega arith) (omega arith) (omega arith) (accepts e).1 (tree_before e)
