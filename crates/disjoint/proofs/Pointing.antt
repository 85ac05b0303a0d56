-- The point lookup of the public call: its refusals, how many nodes it enters, and that it agrees
-- with the general lookup from Included x to Included x.
use mathlib.Core.Path.{◌≡◌, refl, sym, ap, ◌∙◌}
use mathlib.Core.List.{List}
use Prim.Native.Nat.{ℕ, ◌<◌, ◌≤◌}
use native.Mathlib.Omega.{arith}
use lib.ListN.{length}
use borrow.Author.Tests.{eq-eqb, le-leb}
use Rattle.tree.specs.Tree.{height}
use Rattle.tree.specs.Passes.{Passes}
use Rattle.iter.specs.Cursors.{fresh, ended}
use Rattle.iter.specs.Drains as drains
use Rattle.iter.specs.Drains.{limit_of_lem, filled, drain}
use Rattle.iter.specs.Overlap.{overlap}
use Rattle.iter.specs.Queries.{rules}
use Rattle.iter.specs.declared.Cursor.{Cursor}
use Rattle.iter.specs.declared.rules.Query.{Query}
use Rattle.iter.specs.declared.rules.Query.TheVariants.{Overlap}
use Rattle.disjoint_rule.specs.Point.{only, point, found}
use Rattle.disjoint_rule.proofs.Points.{point_low, point_step, point_drains}
use Rattle.iset.specs.Effects.{Output, output}
use Rattle.iset.specs.Lookup.{start_number, step_number, step_call, DrainAnswer, drain_done, drain_number, drain_call}
use Rattle.iset.specs.Refusals.{Exactly}
use Rattle.iset.specs.declared.Map.{Map}
use Rattle.iset.proofs.Orders.{start_order}
use Rattle.iset.proofs.Found.{fresh_accepted}
use Rattle.iset.proofs.Refusals.{number_is, kept}
use Rattle.disjoint.specs.Check.{disjoint_rule_lem}
use Rattle.disjoint.specs.Point.{PointAnswer, refused_point, point_call}
use Rattle.disjoint.specs.Demands.{disjoint_rows}
use Rattle.disjoint.proofs.Checks.{few, checked, disjoint_zero, disjoint_refusals}

-- a drain's number
pub drain_no : (m : Map) (W C : List ℕ) (q : Query) (c : Cursor) (limit : ℕ) (out : List ℕ)
    → (drain_call m W C q c limit out).answer.no ≡ drain_number m W C q c limit (length out)
unfolding drain_call
drain_no m W C q c limit out = number_is (λ (a : Output DrainAnswer). a.answer.no) (drain_number m W C q c limit (length out)) _ _ refl refl

module _ (m : Map) (W C : List ℕ) (x : ℕ) where
  pub point_no : (point_call m W C x).no ≡ disjoint_rule_lem m W C
  unfolding point_call
  point_no = number_is (λ (a : PointAnswer). a.no) (disjoint_rule_lem m W C) _ _ refl refl

  pub point_refusals : Exactly (disjoint_rows m W C) (point_call m W C x).no
  point_refusals = rw point_no (disjoint_refusals m W C)

  pub point_leaves : ((point_call m W C x).no ≡ 0 → ⊥) → point_call m W C x ≡ refused_point (point_call m W C x).no
  unfolding point_call
  point_leaves d = rw point_no (kept (disjoint_rule_lem m W C) _ _ (λ e. d (point_no ∙ e)))

  -- one that is not refused
  module _ (e : disjoint_rule_lem m W C ≡ 0) where
    abbrev Q : Query
    Q = Overlap (only x)

    slot_is : (point_call m W C x).slot ≡ point W m.count m.root x
    unfolding point_call
    slot_is = rw (eq-eqb (disjoint_rule_lem m W C) 0 e)

    pub enters_few : (P : Passes W C m.count m.root) → (point_call m W C x).entered ≤ height P.tree
    unfolding point_call
    enters_few P = rw (eq-eqb (disjoint_rule_lem m W C) 0 e) (point_low W C m.count m.root x (few m W C (checked m W C e)) P)

    -- the general lookup is accepted
    starts : start_number m W C Q ≡ 0
    starts = start_order m W C Q ∙ rw (checked m W C e, le-leb x x (omega arith)) refl

    steps : step_number m W C Q (fresh m.root) ≡ 0
    steps = fresh_accepted m W C Q starts

    pub same_step : ((step_call m W C Q (fresh m.root)).no ≡ 0) × ((step_call m W C Q (fresh m.root)).slot ≡ (point_call m W C x).slot)
    unfolding step_call rules
    same_step =
        let D = disjoint_zero m W C e in
        let s = point_step W C m.count m.root x (few m W C (checked m W C e)) D.1 D.2 in
        rw (eq-eqb (step_number m W C Q (fresh m.root)) 0 steps) (refl, s ∙ sym slot_is)

    module _ (limit : ℕ) (out : List ℕ) (z : drain_number m W C Q (fresh m.root) limit (length out) ≡ 0) (h : 1 < limit_of_lem limit (length out)) where
      abbrev d : drains.Drained
      d = drain W m.count (overlap W m.count (only x)) (limit_of_lem limit (length out)) (fresh m.root)

      drain_is : drain_call m W C Q (fresh m.root) limit out ≡ output (drain_done d) (filled d.slots out)
      unfolding drain_call rules
      drain_is = rw (eq-eqb (drain_number m W C Q (fresh m.root) limit (length out)) 0 z)

      drained : (d.slots ≡ found m.count (point_call m W C x).slot) × (d.next ≡ ended)
      drained =
          let D = disjoint_zero m W C e in
          rw slot_is (point_drains W C m.count m.root x (few m W C (checked m W C e)) D.1 D.2 (limit_of_lem limit (length out)) h)

      pub same_drain : ((drain_call m W C Q (fresh m.root) limit out).output ≡ filled (found m.count (point_call m W C x).slot) out)
          × ((drain_call m W C Q (fresh m.root) limit out).answer.hits ≡ length (found m.count (point_call m W C x).slot))
          × ((drain_call m W C Q (fresh m.root) limit out).answer.next ≡ ended)
      same_drain = (
        ap (λ (a : Output DrainAnswer). a.output) drain_is ∙ ap (λ (l : List ℕ). filled l out) drained.0,
        ap (λ (a : Output DrainAnswer). a.answer.hits) drain_is ∙ ap (λ (l : List ℕ). length l) drained.0,
        ap (λ (a : Output DrainAnswer). a.answer.next) drain_is ∙ drained.1,
      )
