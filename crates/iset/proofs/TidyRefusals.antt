-- Demand 1 of numbering the slots anew: the planner and the step that accepts a plan are refused
-- exactly as document 02 says, and a refused call leaves all that was lent.
use Rattle.std.proofs.Common.{◌≡◌, ℕ, ◌<◌, true, false, cond, leb, List, length, sym, refl, ◌∙◌, true≢false, arith, leb-false, leb-true}
use Rattle.tidy_rule.specs.Plan.{fits}
use Rattle.tidy_rule.proofs.Plans.{Fits, fits_is, is_fits}
use Rattle.iset.specs.Effects.{Effect, effect, Output, output}
use Rattle.iset.specs.Check.{check_rule}
use Rattle.iset.specs.Refusals.{accept, refuse, Exactly, BadPlan, check_rows, propose_rows, renumber_rows}
use Rattle.iset.specs.Tidy.{propose_number, propose_call, renumber_number, RenumberAnswer, refused_renumbering, renumber_call}
use Rattle.iset.specs.declared.Map.{Map}
use Rattle.iset.proofs.Orders.{propose_order, renumber_order}
use Rattle.iset.proofs.Refusals.{first_then, passed_row, number_is, kept, check_refusals}

module _ (m : Map) (W C : List ℕ) where
  -- the planner
  pub propose_no : (out : List ℕ) → (propose_call m W C out).answer ≡ propose_number m W C (length out)
  unfolding propose_call
  propose_no out = number_is (λ (a : Output ℕ). a.answer) (propose_number m W C (length out)) _ _ refl refl

  pub propose_refusals : (out : List ℕ) → Exactly (propose_rows m W C (length out)) (propose_call m W C out).answer
  propose_refusals out =
      rw (propose_no out, propose_order m W C (length out))
      (first_then (check_rows m W C) (refuse 9 (length out < m.count) accept) (check_rule m W C) (cond (leb m.count (length out)) 0 9) (omega arith)
      (check_refusals m W C)
      (λ e. passed_row 9 (length out < m.count) accept 0 (leb m.count (length out)) (omega arith)
      (λ t p. omega (arith, leb-true m.count (length out) t)) (leb-false m.count (length out)) (λ t. refl)))

  pub propose_leaves : (out : List ℕ) → ((propose_call m W C out).answer ≡ 0 → ⊥) → propose_call m W C out ≡ output (propose_call m W C out).answer out
  unfolding propose_call
  propose_leaves out d = rw (propose_no out) (kept (propose_number m W C (length out)) _ _ (λ e. d (propose_no out ∙ e)))

  -- a renumbering
  pub renumber_no : (plan : List ℕ) → (renumber_call m W C plan).answer.no ≡ renumber_number m W C plan
  unfolding renumber_call
  renumber_no plan = number_is (λ (a : Effect RenumberAnswer). a.answer.no) (renumber_number m W C plan) _ _ refl refl

  accepted_not : (plan : List ℕ) → fits m.count plan ≡ true → BadPlan m plan → ⊥
  accepted_not plan e d = let w : Fits m.count plan = fits_is m.count plan e in d (w.long, w.once)

  bad : (plan : List ℕ) → fits m.count plan ≡ false → BadPlan m plan
  bad plan e h = true≢false (sym (is_fits m.count plan (record { long = h.0; once = h.1 })) ∙ e)

  pub renumber_refusals : (plan : List ℕ) → Exactly (renumber_rows m W C plan) (renumber_call m W C plan).answer.no
  renumber_refusals plan =
      rw (renumber_no plan, renumber_order m W C plan)
      (first_then (check_rows m W C) (refuse 15 (BadPlan m plan) accept) (check_rule m W C) (cond (fits m.count plan) 0 15) (omega arith)
      (check_refusals m W C)
      (λ e. passed_row 15 (BadPlan m plan) accept 0 (fits m.count plan) (omega arith) (accepted_not plan) (bad plan) (λ t. refl)))

  -- "the map .. as given"
  pub renumber_leaves : (plan : List ℕ) → ((renumber_call m W C plan).answer.no ≡ 0 → ⊥)
      → renumber_call m W C plan ≡ effect (refused_renumbering m (renumber_call m W C plan).answer.no) W C
  unfolding renumber_call
  renumber_leaves plan d = rw (renumber_no plan) (kept (renumber_number m W C plan) _ _ (λ e. d (renumber_no plan ∙ e)))
