-- The check's numbers say exactly what document 02's item 10 says.
use mathlib.Core.Path.{◌≡◌, refl, sym, ◌∙◌}
use mathlib.Core.Bool.{Bool, true, false, cond, true≢false}
use mathlib.Core.List.{List}
use Prim.Native.Nat.{ℕ, zero, suc, ◌≤◌}
use native.Mathlib.Omega.{arith}
use lib.ListN.{length}
use lib.Dec.{eqb}
use borrow.Author.Tests.{ne_eqb}
use Rattle.words.specs.Nodes.{capacity}
use Rattle.tree.specs.Passes.{Passes}
use Rattle.disjoint_rule.specs.Disjoint.{Disjoint}
use Rattle.disjoint_rule.specs.Apart.{apart_below}
use Rattle.disjoint_rule.proofs.Apart.{apart_disjoint}
use Rattle.disjoint_rule.proofs.Kept.{empty_disjoint}
use Rattle.iset.specs.Check.{count_number, check_rule}
use Rattle.iset.specs.Maps.{empty_map}
use Rattle.iset.specs.Refusals.{accept, refuse, Exactly, NoRoom, Broken, check_rows}
use Rattle.iset.specs.declared.Map.{Map}
use Rattle.iset.proofs.Checks.{cases, both_zero, check_zero, zero_check, checked_count}
use Rattle.iset.proofs.Refusals.{first_then, passed_row, check_refusals}
use Rattle.iset.proofs.Sequence.{empty_passes}
use Rattle.disjoint.specs.Check.{disjoint_rule_lem}
use Rattle.disjoint.specs.Demands.{NotDisjoint, disjoint_rows}

module _ (m : Map) (W C : List ℕ) where
  abbrev n : ℕ
  n = m.count

  -- the pass over the slots of a store that passes the check of crate iset
  module _ (c : check_rule m W C ≡ 0) where
    pub few : n ≤ 65535
    few = omega (arith, (check_zero m W C c).0)

    apart_sound : apart_below W n n ≡ true → Disjoint W n
    apart_sound = (apart_disjoint W C n m.root few (check_zero m W C c).1).0

    apart_complete : Disjoint W n → apart_below W n n ≡ true
    apart_complete = (apart_disjoint W C n m.root few (check_zero m W C c).1).1

    pass_row : Exactly (refuse 14 (NotDisjoint m W) accept) (cond (apart_below W n n) 0 14)
    pass_row =
        passed_row 14 (NotDisjoint m W) accept 0 (apart_below W n n) (omega arith)
        (λ t p. p (apart_sound t)) (λ t d. true≢false (sym (apart_complete d) ∙ t)) (λ t. refl)

  -- 1, 2, 14, both ways
  pub disjoint_refusals : Exactly (disjoint_rows m W C) (disjoint_rule_lem m W C)
  unfolding disjoint_rule_lem
  disjoint_refusals =
      first_then (check_rows m W C) (refuse 14 (NotDisjoint m W) accept) (check_rule m W C) (cond (apart_below W n n) 0 14) (omega arith)
      (check_refusals m W C) pass_row

  -- the check of crate iset comes first
  pub check_first : (check_rule m W C ≡ 0 → ⊥) → disjoint_rule_lem m W C ≡ check_rule m W C
  unfolding disjoint_rule_lem
  check_first d = rw (ne_eqb (check_rule m W C) 0 d)

  -- 0 exactly if the count is within capacity, the store passes, and no two entries intersect
  pub disjoint_zero : disjoint_rule_lem m W C ≡ 0 → (m.count ≤ capacity (length W) (length C)) × Passes W C m.count m.root × Disjoint W m.count
  unfolding disjoint_rule_lem
  disjoint_zero e =
      let z : (check_rule m W C ≡ 0) × (◌≡◌ {A = ℕ} (cond (apart_below W n n) 0 14) 0) = both_zero (check_rule m W C) (cond (apart_below W n n) 0 14) e in
      let c = check_zero m W C z.0 in
      (c.0, c.1, go z.0 (apart_below W n n) refl z.1)
    where
      go : check_rule m W C ≡ 0 → (b : Bool) → apart_below W n n ≡ b → ◌≡◌ {A = ℕ} (cond b 0 14) 0 → Disjoint W n
      go c true p y = apart_sound c p
      go c false p y = absurd (omega arith)

  pub zero_disjoint : m.count ≤ capacity (length W) (length C) → Passes W C m.count m.root → Disjoint W m.count → disjoint_rule_lem m W C ≡ 0
  unfolding disjoint_rule_lem
  zero_disjoint h P d = let c : check_rule m W C ≡ 0 = zero_check m W C h P in rw (c, apart_complete c d) refl

  -- 1 exactly if the count is above capacity; 2 exactly if it is not, and the store does not pass;
  -- 14 exactly if it passes, and two entries intersect
  pub disjoint_one : disjoint_rule_lem m W C ≡ 1 → NoRoom m W C
  disjoint_one = disjoint_refusals.0.0

  pub one_disjoint : NoRoom m W C → disjoint_rule_lem m W C ≡ 1
  one_disjoint = disjoint_refusals.0.1

  pub disjoint_two : disjoint_rule_lem m W C ≡ 2 → (NoRoom m W C → ⊥) × Broken m W C
  disjoint_two e = let f : NoRoom m W C → ⊥ = λ h. omega (arith, e, one_disjoint h) in (f, (disjoint_refusals.1 f).0.0 e)

  pub two_disjoint : (NoRoom m W C → ⊥) → Broken m W C → disjoint_rule_lem m W C ≡ 2
  two_disjoint f = (disjoint_refusals.1 f).0.1

  pub disjoint_fourteen : disjoint_rule_lem m W C ≡ 14 → (NoRoom m W C → ⊥) × (Broken m W C → ⊥) × NotDisjoint m W
  disjoint_fourteen e =
      let f : NoRoom m W C → ⊥ = λ h. omega (arith, e, one_disjoint h) in
      let g : Broken m W C → ⊥ = λ b. omega (arith, e, two_disjoint f b) in
      (f, g, ((disjoint_refusals.1 f).1 g).0.0 e)

  pub fourteen_disjoint : (NoRoom m W C → ⊥) → (Broken m W C → ⊥) → NotDisjoint m W → disjoint_rule_lem m W C ≡ 14
  fourteen_disjoint f g = ((disjoint_refusals.1 f).1 g).0.1

  -- and 13 never
  pub never_thirteen : disjoint_rule_lem m W C ≡ 13 → ⊥
  unfolding disjoint_rule_lem
  never_thirteen e = go (check_rule m W C) (apart_below W n n) refl e
    where
      go : (k : ℕ) (b : Bool) → check_rule m W C ≡ k → cond (eqb k 0) (cond b 0 14) k ≡ 13 → ⊥
      go zero true p f = omega arith
      go zero false p f = omega arith
      go (suc k) b p f =
          let q : suc k ≡ 13 = rw (ne_eqb (suc k) 0 (λ z. omega arith)) at f in
          cases m W C 13 (p ∙ q) (λ h z. omega arith) (λ h P z. omega arith) (λ h d z. omega arith)

  -- what is left of it for an opened store
  pub checked : disjoint_rule_lem m W C ≡ 0 → check_rule m W C ≡ 0
  unfolding disjoint_rule_lem
  checked e = (both_zero (check_rule m W C) (cond (apart_below W n n) 0 14) e).0

  pub counted : disjoint_rule_lem m W C ≡ 0 → count_number m W C ≡ 0
  counted e = checked_count m W C (checked e)

-- `Map::new` passes in any words
pub empty_sound : (W C : List ℕ) → disjoint_rule_lem empty_map W C ≡ 0
empty_sound W C = let c = check_zero empty_map W C (empty_passes W C) in zero_disjoint empty_map W C c.0 c.1 (empty_disjoint W)
