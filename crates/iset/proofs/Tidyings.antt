-- Numbering the slots anew: what the tests of both calls leave, in the form that `search` takes,
-- and what an accepted plan does to the store.
use Rattle.std.proofs.Common.{◌≡◌, ℕ, ◌≤◌, Bool, true, false, cond, leb, List, length, sym, refl, arith}
use Rattle.words.specs.Layouts.{as_eight, HoldsIn}
use Rattle.words.specs.Nodes.{capacity, HoldsBits}
use Rattle.tree.specs.Passes.{Passes}
use Rattle.tidy_rule.specs.Plan.{fits}
use Rattle.tidy_rule.specs.Tidy.{tidied}
use Rattle.tidy_rule.specs.Tidied.{Tidied}
use Rattle.tidy_rule.proofs.Plans.{Fits, fits_is}
use Rattle.tidy_rule.proofs.Moves.{moved}
use Rattle.iset.specs.Check.{count_number, check_rule}
use Rattle.iset.specs.Tidy.{open_propose_number, propose_number, open_renumber_number, renumber_number}
use Rattle.iset.specs.declared.Map.{Map}
use Rattle.iset.proofs.Checks.{both_zero, places_held, check_zero, count_zero}
use Rattle.iset.proofs.Layouts.{held_in}

-- an accepted plan, from its number
plan_held : (b : Bool) → ◌≡◌ {A = ℕ} (cond b 0 15) 0 → b ≡ true
plan_held true e = refl
plan_held false e = absurd (omega arith)

module _ (m : Map) (W C : List ℕ) where
  pub open_propose_accepts : (places : ℕ) → open_propose_number m W C places ≡ 0 → (m.count ≤ capacity (length W) (length C)) × (m.count ≤ places)
  unfolding open_propose_number
  open_propose_accepts places e =
      let z : (count_number m W C ≡ 0) × (◌≡◌ {A = ℕ} (cond (leb m.count places) 0 9) 0) = both_zero (count_number m W C) (cond (leb m.count places) 0 9) e in
      (count_zero m W C z.0, places_held m.count places z.1)

  pub propose_accepts : (places : ℕ) → propose_number m W C places ≡ 0 → (check_rule m W C ≡ 0) × (m.count ≤ places)
  unfolding propose_number
  propose_accepts places e =
      let z : (check_rule m W C ≡ 0) × (open_propose_number m W C places ≡ 0) = both_zero (check_rule m W C) (open_propose_number m W C places) e in
      (z.0, (open_propose_accepts places z.1).1)

  pub open_renumber_accepts : (plan : List ℕ) → open_renumber_number m W C plan ≡ 0 → (m.count ≤ capacity (length W) (length C)) × (fits m.count plan ≡ true)
  unfolding open_renumber_number
  open_renumber_accepts plan e =
      let z : (count_number m W C ≡ 0) × (◌≡◌ {A = ℕ} (cond (fits m.count plan) 0 15) 0) = both_zero (count_number m W C) (cond (fits m.count plan) 0 15) e in
      (count_zero m W C z.0, plan_held (fits m.count plan) z.1)

  pub renumber_accepts : (plan : List ℕ) → renumber_number m W C plan ≡ 0 → (check_rule m W C ≡ 0) × (fits m.count plan ≡ true)
  unfolding renumber_number
  renumber_accepts plan e =
      let z : (check_rule m W C ≡ 0) × (open_renumber_number m W C plan ≡ 0) = both_zero (check_rule m W C) (open_renumber_number m W C plan) e in
      (z.0, (open_renumber_accepts plan z.1).1)

  -- what the rule gives; `renumbers` of Renumberings says it of the call
  module _ (plan : List ℕ) (e : renumber_number m W C plan ≡ 0) where
    pub plan_fits : Fits m.count plan
    plan_fits = fits_is m.count plan (renumber_accepts plan e).1

    pub tree_before : Passes W C m.count m.root
    tree_before = (check_zero m W C (renumber_accepts plan e).0).1

    pub few : m.count ≤ 65535
    few = omega (arith, (check_zero m W C (renumber_accepts plan e).0).0)

    pub by_rule_law : Tidied m.count plan W C (tidied m.count plan W C).words (tidied m.count plan W C).colours
    by_rule_law =
        let h : m.count ≤ capacity (length W) (length C) = (check_zero m W C (renumber_accepts plan e).0).0 in
        moved m.count plan W C plan_fits (omega arith) (omega arith) (omega arith)

-- what the tests of an opened call leave: slices with places, and for the planner an output with
-- places; for a renumbering an accepted plan
module _ (m : Map) (narrow : Bool) (N C : List ℕ) where
  abbrev W : List ℕ
  W = as_eight narrow N

  pub proposable : (places : ℕ) → 0 ≡ open_propose_number m W C places → HoldsIn narrow N m.count × (m.count ≤ places)
  proposable places e =
      let h = open_propose_accepts m W C places (sym e) in
      (held_in narrow N (length C) m.count h.0, h.1)

  pub movable : (plan : List ℕ) → 0 ≡ open_renumber_number m W C plan → HoldsIn narrow N m.count × HoldsBits C m.count × (fits m.count plan ≡ true)
  movable plan e =
      let h = open_renumber_accepts m W C plan (sym e) in
      (held_in narrow N (length C) m.count h.0, omega (arith, h.0), h.1)
