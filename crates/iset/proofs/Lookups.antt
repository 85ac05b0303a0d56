-- The refusals of the lookups, and what they leave: slices with room, and a cursor that is fit for
-- a step.
use Rattle.std.proofs.Common.{◌≡◌, ℕ, ◌≤◌, Bool, true, false, cond, ltb, List, length, sym, refl, ap, ◌∙◌, arith, ltb-false}
use Rattle.words.specs.Nodes.{capacity, HoldsBits}
use Rattle.words.specs.Layouts.{as_eight, HoldsIn}
use Rattle.iter.specs.Forms.{form_of}
use Rattle.iter.specs.Places.{Placed}
use Rattle.iter.specs.Drains as drains
use Rattle.iter.specs.declared.Cursor.{Cursor}
use Rattle.iter.specs.declared.Form.{Form}
use Rattle.iter.specs.declared.Form.TheVariants.{Bad}
use Rattle.iter.specs.declared.rules.Query.{Query}
use Rattle.iter.proofs.Ways.{form_placed}
use Rattle.iset.specs.Check.{check_rule, count_number}
use Rattle.iset.specs.Lookup.{query_number, beginning, form_number, start_number, step_number, drain_number, open_start_number, open_step_number, open_drain_number}
use Rattle.iset.specs.declared.Map.{Map}
use Rattle.iset.proofs.Checks.{both_zero, count_zero}
use Rattle.iset.proofs.Layouts.{held_in}
use Rattle.iset.proofs.Orders.{start_order, step_order, drain_order}

-- an output that holds the limit
holds : (limit out : ℕ) → ◌≡◌ {A = ℕ} (cond (ltb out (drains.limit_of_lem limit out)) 9 0) 0 → drains.limit_of_lem limit out ≤ out
holds limit out e = go (ltb out (drains.limit_of_lem limit out)) refl e
  where
    go : (b : Bool) → ltb out (drains.limit_of_lem limit out) ≡ b → ◌≡◌ {A = ℕ} (cond b 9 0) 0 → drains.limit_of_lem limit out ≤ out
    go true f y = absurd (omega arith)
    go false f y = ltb-false out (drains.limit_of_lem limit out) f

-- what a lookup that is not refused has passed: an opened one
module _ (m : Map) (W C : List ℕ) (q : Query) where
  pub open_start_accepts : open_start_number m W C q ≡ 0 → (count_number m W C ≡ 0) × (query_number q ≡ 0)
  unfolding open_start_number
  open_start_accepts e = both_zero (count_number m W C) (query_number q) e

  module _ (c : Cursor) where
    pub open_step_accepts : open_step_number m W C q c ≡ 0
        → (open_start_number m W C q ≡ 0) × (form_number (form_of W m.count (beginning m W q) c) ≡ 0)
    unfolding open_step_number
    open_step_accepts e = both_zero (open_start_number m W C q) (form_number (form_of W m.count (beginning m W q) c)) e

    pub open_drain_accepts : (limit out : ℕ) → open_drain_number m W C q c limit out ≡ 0 → (open_step_number m W C q c ≡ 0) × (drains.limit_of_lem limit out ≤ out)
    unfolding open_drain_number
    open_drain_accepts limit out e =
        let z : (open_step_number m W C q c ≡ 0) × (◌≡◌ {A = ℕ} (cond (ltb out (drains.limit_of_lem limit out)) 9 0) 0) =
        both_zero (open_step_number m W C q c) (cond (ltb out (drains.limit_of_lem limit out)) 9 0) e in
        (z.0, holds limit out z.1)

  held : open_start_number m W C q ≡ 0 → m.count ≤ capacity (length W) (length C)
  held e = count_zero m W C (open_start_accepts e).0

-- and a public one
module _ (m : Map) (W C : List ℕ) (q : Query) where
  pub start_accepts : start_number m W C q ≡ 0 → (check_rule m W C ≡ 0) × (query_number q ≡ 0)
  start_accepts e = both_zero (check_rule m W C) (query_number q) (sym (start_order m W C q) ∙ e)

  module _ (c : Cursor) where
    pub step_accepts : step_number m W C q c ≡ 0 → (start_number m W C q ≡ 0) × (form_number (form_of W m.count (beginning m W q) c) ≡ 0)
    step_accepts e =
        both_zero (start_number m W C q) (form_number (form_of W m.count (beginning m W q) c)) (sym (step_order m W C q c) ∙ e)

    pub drain_accepts : (limit out : ℕ) → drain_number m W C q c limit out ≡ 0 → (step_number m W C q c ≡ 0) × (drains.limit_of_lem limit out ≤ out)
    drain_accepts limit out e =
        let z : (step_number m W C q c ≡ 0) × (◌≡◌ {A = ℕ} (cond (ltb out (drains.limit_of_lem limit out)) 9 0) 0) =
        both_zero (step_number m W C q c) (cond (ltb out (drains.limit_of_lem limit out)) 9 0) (sym (drain_order m W C q c limit out) ∙ e) in
        (z.0, holds limit out z.1)

pub not_bad : (f : Form) → form_number f ≡ 0 → f ≡ Bad → ⊥
not_bad f e q = let z : ◌≡◌ {A = ℕ} 7 0 = sym (ap form_number q) ∙ e in omega arith

-- what the tests of an opened lookup leave, in either layout: slices with places, and a cursor that
-- is fit for a step
module _ (m : Map) (narrow : Bool) (N C : List ℕ) (q : Query) where
  abbrev W : List ℕ
  W = as_eight narrow N

  pub startable : 0 ≡ open_start_number m W C q → HoldsIn narrow N m.count × HoldsBits C m.count
  startable e =
      let h : m.count ≤ capacity (length W) (length C) = held m W C q (sym e) in
      (held_in narrow N (length C) m.count h, omega (arith, h))

  pub steppable : (c : Cursor) → 0 ≡ open_step_number m W C q c → HoldsIn narrow N m.count × (m.count ≤ 65535) × Placed m.count c
  steppable c e =
      let a : (open_start_number m W C q ≡ 0) × (form_number (form_of W m.count (beginning m W q) c) ≡ 0) = open_step_accepts m W C q c (sym e) in
      let h : m.count ≤ capacity (length W) (length C) = held m W C q a.0 in (
        held_in narrow N (length C) m.count h,
        omega (arith, h),
        form_placed W m.count (beginning m W q) c (form_of W m.count (beginning m W q) c) refl (not_bad _ a.1) (omega arith),
      )

  pub drainable : (c : Cursor) (limit out : ℕ) → 0 ≡ open_drain_number m W C q c limit out → (l : ℕ) → l ≡ drains.limit_of_lem limit out
      → HoldsIn narrow N m.count × (m.count ≤ 65535) × (l ≤ out) × Placed m.count c
  drainable c limit out e l f =
      let z : (open_step_number m W C q c ≡ 0) × (drains.limit_of_lem limit out ≤ out) = open_drain_accepts m W C q c limit out (sym e) in
      let h = steppable c (sym z.0) in
      (h.0, h.1, omega (arith, z.1), h.2)
