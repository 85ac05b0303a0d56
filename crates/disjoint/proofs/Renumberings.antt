-- Document 02, item 14, of a disjoint map: a renumbering keeps the rule that no two entries
-- intersect.
use mathlib.Core.Path.{◌≡◌, refl, sym, ap, ◌∙◌}
use mathlib.Core.List.{List}
use Prim.Native.Nat.{ℕ, zero, suc}
use native.Mathlib.Omega.{arith}
use lib.ListN.{get_or}
use borrow.Author.Tests.{ne_eqb}
use Rattle.words.specs.Intervals.{intersects}
use Rattle.words.specs.Nodes.{interval}
use Rattle.tree_in_rule.specs.Insert.{own}
use Rattle.tidy_rule.specs.Plan.{renamed}
use Rattle.tidy_rule.specs.Tidy.{Both, tidied}
use Rattle.tidy_rule.specs.Tidied.{Tidied}
use Rattle.tidy_rule.proofs.Plans.{Fits, plan_all}
use Rattle.tidy_rule.proofs.Renumbers.{renumbered}
use Rattle.disjoint_rule.specs.Disjoint.{range_of, Disjoint}
use Rattle.iset.specs.Maps.{next_map}
use Rattle.iset.specs.Sequence.{renumber, State, answered}
use Rattle.iset.specs.Tidy.{renumber_number, renumber_by, renumber_call}
use Rattle.iset.specs.declared.Map.{Map}
use Rattle.iset.proofs.Tidyings.{plan_fits, few, by_rule_law}
use Rattle.disjoint.specs.Check.{disjoint_rule_lem}
use Rattle.disjoint.proofs.Checks.{disjoint_zero, zero_disjoint}

-- nodes that move keep their intervals
moved_apart : (n : ℕ) (P W C X D : List ℕ) → Fits n P → Tidied n P W C X D → Disjoint W n → Disjoint X n
moved_apart n P W C X D w m d a b la lb ne =
    plan_all n P w a la (λ s ls i. plan_all n P w b lb (λ u lu j.
    let x : interval X a ≡ interval W s = rw (← i) (ap own (m.entries s ls)) in
    let y : interval X b ≡ interval W u = rw (← j) (ap own (m.entries u lu)) in
    (λ t. intersects (range_of (y t)) (x t)) ∙ d s u ls lu (λ e. ne (sym i ∙ ap (λ (k : ℕ). get_or P k 0) e ∙ j))))

module _ (m : Map) (W C plan : List ℕ) (z : disjoint_rule_lem m W C ≡ 0) where
  abbrev R : Both
  R = tidied m.count plan W C

  accepted : renumber_number m W C plan ≡ 0 → disjoint_rule_lem (next_map m m.count (renamed m.count plan m.root)) R.words R.colours ≡ 0
  accepted e =
      let (h, P, d) = disjoint_zero m W C z in
      let w : Fits m.count plan = plan_fits m W C plan e in
      let o : Tidied m.count plan W C R.words R.colours = by_rule_law m W C plan e in
      zero_disjoint (next_map m m.count (renamed m.count plan m.root)) R.words R.colours (rw (o.words_length, o.colours_length) h)
      (renumbered m.count plan W C R.words R.colours w o m.root (few m W C plan e) P)
      (moved_apart m.count plan W C R.words R.colours w o d)

  by_number : (k : ℕ) → renumber_number m W C plan ≡ k
      → disjoint_rule_lem (renumber_by m W C plan k).answer.map (renumber_by m W C plan k).words (renumber_by m W C plan k).colours ≡ 0
  by_number zero e = accepted e
  by_number (suc k) e = rw (ne_eqb (suc k) 0 (λ y. omega arith)) z

  -- a renumbering, refused or not, leaves a disjoint map
  pub renumber_keeps : let T : State = answered (record { map = m; words = W; colours = C }) (renumber plan) in disjoint_rule_lem T.map T.words T.colours ≡ 0
  unfolding renumber_call
  renumber_keeps = by_number (renumber_number m W C plan) refl
