-- What a removal guarantees: it is refused exactly as document 02's item 10 says, and "Removal
-- keeps the rule."
use mathlib.Core.Path.{◌≡◌, refl, ◌∙◌}
use mathlib.Core.List.{List}
use Prim.Native.Nat.{ℕ, ◌-◌, ◌<◌, ◌≤◌}
use native.Mathlib.Omega.{arith}
use lib.ListN.{length}
use lib.Dec.{ltb}
use borrow.Author.Tests.{eq-eqb, ltb-true, ltb-false}
use Rattle.words.specs.Nodes.{capacity}
use Rattle.disjoint_rule.specs.Disjoint.{Disjoint}
use Rattle.disjoint_rule.proofs.Kept.{removal_keeps}
use Rattle.iset.specs.Effects.{Effect, effect}
use Rattle.iset.specs.Refusals.{accept, refuse, Exactly, NoSuch}
use Rattle.iset.specs.Remove.{open_remove_number, remove_number, RemoveAnswer, refused_removal, remove_call}
use Rattle.iset.specs.declared.Map.{Map}
use Rattle.iset.proofs.Checks.{both_zero}
use Rattle.iset.proofs.Removals as removals
use Rattle.iset.proofs.Refusals.{first_then, passed_row, number_is, kept}
use Rattle.disjoint.specs.Check.{disjoint_rule_lem}
use Rattle.disjoint.specs.Take.{take_number, take_call}
use Rattle.disjoint.specs.Demands.{disjoint_rows, take_rows}
use Rattle.disjoint.proofs.Checks.{checked, counted, disjoint_zero, disjoint_refusals}

module _ (m : Map) (W C : List ℕ) (s : ℕ) where
  abbrev n : ℕ
  n = m.count

  pub take_no : (take_call m W C s).answer.no ≡ take_number m W C s
  unfolding take_call
  take_no = number_is (λ (a : Effect RemoveAnswer). a.answer.no) (take_number m W C s) _ _ refl refl

  -- what the check leaves to test
  slot_row : disjoint_rule_lem m W C ≡ 0 → Exactly (refuse 3 (NoSuch m s) accept) (open_remove_number m W C s)
  unfolding open_remove_number
  slot_row z =
      rw (counted m W C z)
      (passed_row 3 (NoSuch m s) accept 0 (ltb s n) (omega arith) (λ t p. omega (arith, ltb-true s n t)) (ltb-false s n) (λ t. refl))

  -- 1, 2, 14, 3
  pub take_rows_lem : Exactly (take_rows m W C s) (take_number m W C s)
  unfolding take_number
  take_rows_lem =
      first_then (disjoint_rows m W C) (refuse 3 (NoSuch m s) accept) (disjoint_rule_lem m W C) (open_remove_number m W C s) (omega arith)
      (disjoint_refusals m W C) slot_row

  pub take_refusals : Exactly (take_rows m W C s) (take_call m W C s).answer.no
  take_refusals = rw take_no take_rows_lem

  -- a store that the check refuses nothing of: 3 exactly if the slot is not below the count, and
  -- else 0
  pub take_three : disjoint_rule_lem m W C ≡ 0 → n ≤ s → take_number m W C s ≡ 3
  unfolding take_number
  take_three z h = rw z ((slot_row z).0.1 h)

  pub take_accepted : disjoint_rule_lem m W C ≡ 0 → s < n → take_number m W C s ≡ 0
  unfolding take_number
  take_accepted z h = rw z ((slot_row z).1 (λ b. omega (arith, h)))

  pub take_refused : ((take_call m W C s).answer.no ≡ 0 → ⊥) → take_call m W C s ≡ effect (refused_removal m (take_call m W C s).answer.no) W C
  unfolding take_call
  take_refused d = rw take_no (kept (take_number m W C s) _ _ (λ z. d (take_no ∙ z)))

  -- one that is not refused
  module _ (z : take_number m W C s ≡ 0) where
    pub accepts : (disjoint_rule_lem m W C ≡ 0) × (s < n)
    unfolding take_number
    accepts =
        let y : (disjoint_rule_lem m W C ≡ 0) × (open_remove_number m W C s ≡ 0) = both_zero (disjoint_rule_lem m W C) (open_remove_number m W C s) z in
        (y.0, (removals.open_accepts m W C s y.1).1)

    -- it answers and leaves what `Map::remove` does
    pub as_removed : take_call m W C s ≡ remove_call m W C s
    unfolding take_call remove_call
    as_removed =
        rw (eq-eqb (take_number m W C s) 0 z, eq-eqb (remove_number m W C s) 0 (removals.accepted m W C s (checked m W C accepts.0) accepts.1)) refl

    pub take_keeps : Disjoint (take_call m W C s).words (n - 1)
    unfolding take_call
    take_keeps =
        let D = disjoint_zero m W C accepts.0 in
        let h : n ≤ capacity (length W) (length C) = D.0 in
        rw (eq-eqb (take_number m W C s) 0 z)
        (removal_keeps W C n m.root s (omega (arith, h)) (omega (arith, h)) (omega (arith, h)) accepts.1 D.1 D.2)

    pub takes : (take_call m W C s ≡ remove_call m W C s) × Disjoint (take_call m W C s).words (n - 1)
    takes = (as_removed, take_keeps)
