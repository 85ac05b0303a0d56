-- The store in an image is judged without its hulls just as the check judges it with the hulls
-- worked out.
use mathlib.Core.Path.{◌≡◌, refl, sym, ap, ◌∙◌}
use mathlib.Core.Bool.{Bool, true, false}
use mathlib.Core.List.{List}
use Prim.Native.Nat.{ℕ, ◌+◌, ◌*◌, ◌<◌, ◌≤◌}
use native.Mathlib.Omega.{arith}
use Rattle.words.specs.Ix.{U}
use Rattle.words.specs.Nodes.{Holds}
use Rattle.words.specs.declared.interval.Interval.{Interval}
use Rattle.words.specs.declared.node.Field.TheVariants.{Start, End, Child, Parent}
use Rattle.bitvec.specs.Colours.{red}
use Rattle.tree.specs.Tree.{occ, Shape}
use Rattle.tree.specs.Hulls.{Hulls}
use Rattle.tree.proofs.Once.{at_most}
use Rattle.tree.proofs.Sizes.{size_le}
use Rattle.tree.proofs.Frames.{keep, shape_live}
use Rattle.audit.specs.declared.Found.{Found}
use Rattle.audit.specs.Survey.{node_at_lem, survey, is_whole, whole_of}
use Rattle.audit.proofs.Tests.{both, itself, same, not_so}
use Rattle.image_rule.specs.Judge.{bare, glance, whole_at, worked, work_calls}
use Rattle.image_rule.proofs.Worked.{word_worked, same_worked, worked_hulls, work_calls_lem}
use Rattle.image_rule.proofs.Glances.{Stood, glance_bare, survey_glance, glance_tree, glance_survey}

-- two tests of which each says yes if the other does
both_ways : (a b : Bool) → (a ≡ true → b ≡ true) → (b ≡ true → a ≡ true) → a ≡ b
both_ways true b f g = sym (f refl)
both_ways false true f g = g refl
both_ways false false f g = refl

ok_of : (n : ℕ) (a : Found) → is_whole n a ≡ true → a.ok ≡ true
ok_of n a e = ((both (both (itself a.ok) (same a.size n)) (not_so a.red)).holds e).0.0

abbrev none : Interval
none = record { start = 0; end = 0 }

module _ (W C : List ℕ) (n r : ℕ) (small : n ≤ 65535) where
  -- a store that is judged good holds a tree, each slot at most once
  stood : whole_at (node_at_lem W C) n r ≡ true → Stood W C n 33 U r
  unfolding whole_at
  stood e = glance_tree W C n 33 U none r (ok_of n (glance (node_at_lem W C) n 33 U none r) e)

  once : (s : Stood W C n 33 U r) (a : ℕ) → occ a s.tree ≤ 1
  once s = at_most W n small U r s.tree s.shape s.aparts

  -- so that working its hulls out comes to at most two calls for each slot, and one
  pub work_linear : whole_at (node_at_lem W C) n r ≡ true → work_calls n 33 W r ≤ 2 * n + 1
  work_linear e =
      let s : Stood W C n 33 U r = stood e in
      omega (
        arith,
        work_calls_lem n 33 W U r s.tree (omega (arith, s.low)) (omega arith) s.shape,
        size_le n s.tree (λ a. shape_live W n U r s.tree a s.shape) (once s),
      )

  module _ (room : Holds W n) where
    abbrev X : List ℕ
    X = worked n 33 W r

    -- the nodes of both stores, without their hulls
    bares : (k : ℕ) → k < n → bare (node_at_lem W C k) ≡ bare (node_at_lem X C k)
    bares k q = λ t. record {
      interval = record { start = sym (word_worked n 33 W r Start k refl) t; end = sym (word_worked n 33 W r End k refl) t };
      hull = record { start = sym (word_worked n 33 W r Start k refl) t; end = sym (word_worked n 33 W r End k refl) t };
      left = sym (word_worked n 33 W r (Child true) k refl) t;
      right = sym (word_worked n 33 W r (Child false) k refl) t;
      parent = sym (word_worked n 33 W r Parent k refl) t;
      red = red C k;
    }

    over : glance (node_at_lem W C) n 33 U none r ≡ glance (node_at_lem X C) n 33 U none r
    over = glance_bare (node_at_lem W C) (node_at_lem X C) n bares 33 U none r

    pub judged : whole_at (node_at_lem W C) n r ≡ whole_of X C n r
    unfolding whole_at whole_of
    judged = both_ways (is_whole n (glance (node_at_lem W C) n 33 U none r)) (is_whole n (survey X C n 33 U none r)) yes back
      where
        back : is_whole n (survey X C n 33 U none r) ≡ true → is_whole n (glance (node_at_lem W C) n 33 U none r) ≡ true
        back e = ap (is_whole n) (over ∙ survey_glance X C n 33 U none r (ok_of n (survey X C n 33 U none r) e)) ∙ e

        yes : is_whole n (glance (node_at_lem W C) n 33 U none r) ≡ true → is_whole n (survey X C n 33 U none r) ≡ true
        yes e =
            let ok : (glance (node_at_lem W C) n 33 U none r).ok ≡ true = ok_of n (glance (node_at_lem W C) n 33 U none r) e in
            let s : Stood W C n 33 U r = stood e in
            let hulls : Hulls X s.tree = (worked_hulls n small 33 W U r s.tree room (omega (arith, s.low)) (once s) s.shape).0 in
            let shape : Shape X n U r s.tree = keep W X n U r s.tree (λ a o. same_worked n 33 W r a) s.shape in
            let g : survey X C n 33 U none r ≡ glance (node_at_lem X C) n 33 U none r =
            (glance_survey X C n small 33 U none r s.tree shape hulls (sym (ap (λ (a : Found). a.ok) over) ∙ ok)).0 in
            ap (is_whole n) (g ∙ sym over) ∙ e
