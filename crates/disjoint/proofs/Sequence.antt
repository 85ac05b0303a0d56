-- Over any list of calls, refused ones too, a store that is disjoint stays so; and the opened calls
-- leave what the public ones do.
use mathlib.Core.Path.{◌≡◌, refl, ap, ◌∙◌}
use mathlib.Core.List.{List, [], ◌∷◌}
use Prim.Native.Nat.{ℕ, zero, suc, ◌+◌, ◌-◌}
use native.Mathlib.Omega.{arith}
use borrow.Author.Tests.{eq-eqb}
use Rattle.words.specs.declared.node.Entry.{Entry}
use Rattle.iset.specs.Check.{check_rule}
use Rattle.iset.specs.Sequence.{State, removed, inserted}
use Rattle.iset.specs.Sequence as general
use Rattle.iset.specs.declared.Map.{Map}
use Rattle.iset.proofs.Checks.{check_zero}
use Rattle.iset.proofs.Refusals.{kept}
use Rattle.iset.proofs.Sequence.{calls_sound}
use Rattle.disjoint.specs.Check.{disjoint_rule_lem}
use Rattle.disjoint.specs.Place.{place_number, place_call}
use Rattle.disjoint.specs.Take.{take_number, take_call}
use Rattle.disjoint.specs.Sequence.{Call, insert, remove, answered, all_answered, open_answered, all_open_answered}
use Rattle.disjoint.proofs.Checks.{checked, zero_disjoint}
use Rattle.disjoint.proofs.Opened.{place_is, take_is}
use Rattle.disjoint.proofs.Placings.{as_inserted, place_keeps}
use Rattle.disjoint.proofs.Takings.{as_removed, take_keeps}

-- the store passes and is disjoint
abbrev number : State → ℕ
number S = disjoint_rule_lem S.map S.words S.colours

abbrev Sound : State → Type 0
Sound S = number S ≡ 0

abbrev Passing : State → Type 0
Passing S = check_rule S.map S.words S.colours ≡ 0

module _ (m : Map) (W C : List ℕ) (h : disjoint_rule_lem m W C ≡ 0) where
  abbrev S : State
  S = record { map = m; words = W; colours = C }

  -- an insertion
  module _ (e : Entry) where
    placed_count : place_number m W C e ≡ 0 → (place_call m W C e).answer.map.count ≡ m.count + 1
    unfolding place_call
    placed_count z = rw (eq-eqb (place_number m W C e) 0 z)

    placed_sound : place_number m W C e ≡ 0 → Sound (inserted (place_call m W C e))
    placed_sound z =
        let c : Passing (inserted (place_call m W C e)) = rw (as_inserted m W C e z) (calls_sound (general.insert e ∷ []) S (checked m W C h)) in
        let P = check_zero (place_call m W C e).answer.map (place_call m W C e).words (place_call m W C e).colours c in
        zero_disjoint (place_call m W C e).answer.map (place_call m W C e).words (place_call m W C e).colours P.0 P.1
        (rw (placed_count z) (place_keeps m W C e z))

    unplaced : (place_number m W C e ≡ 0 → ⊥) → inserted (place_call m W C e) ≡ S
    unfolding place_call
    unplaced d = ap inserted (kept (place_number m W C e) _ _ d)

    place_sound : Sound (inserted (place_call m W C e))
    place_sound = go (place_number m W C e) refl
      where
        go : (k : ℕ) → place_number m W C e ≡ k → Sound (inserted (place_call m W C e))
        go zero z = placed_sound z
        go (suc k) z = ap number (unplaced (λ y. omega (arith, y, z))) ∙ h

  -- a removal
  module _ (s : ℕ) where
    taken_count : take_number m W C s ≡ 0 → (take_call m W C s).answer.map.count ≡ m.count - 1
    unfolding take_call
    taken_count z = rw (eq-eqb (take_number m W C s) 0 z)

    taken_sound : take_number m W C s ≡ 0 → Sound (removed (take_call m W C s))
    taken_sound z =
        let c : Passing (removed (take_call m W C s)) = rw (as_removed m W C s z) (calls_sound (general.remove s ∷ []) S (checked m W C h)) in
        let P = check_zero (take_call m W C s).answer.map (take_call m W C s).words (take_call m W C s).colours c in
        zero_disjoint (take_call m W C s).answer.map (take_call m W C s).words (take_call m W C s).colours P.0 P.1
        (rw (taken_count z) (take_keeps m W C s z))

    untaken : (take_number m W C s ≡ 0 → ⊥) → removed (take_call m W C s) ≡ S
    unfolding take_call
    untaken d = ap removed (kept (take_number m W C s) _ _ d)

    take_sound : Sound (removed (take_call m W C s))
    take_sound = go (take_number m W C s) refl
      where
        go : (k : ℕ) → take_number m W C s ≡ k → Sound (removed (take_call m W C s))
        go zero z = taken_sound z
        go (suc k) z = ap number (untaken (λ y. omega (arith, y, z))) ∙ h

answered_sound : (S : State) → Sound S → (x : Call) → Sound (answered S x)
answered_sound S h (insert e) = place_sound S.map S.words S.colours h e
answered_sound S h (remove s) = take_sound S.map S.words S.colours h s

pub disjoint_calls_sound : (l : List Call) (S : State) → disjoint_rule_lem S.map S.words S.colours ≡ 0
    → disjoint_rule_lem (all_answered S l).map (all_answered S l).words (all_answered S l).colours ≡ 0
disjoint_calls_sound [] S h = h
disjoint_calls_sound (x ∷ l) S h = disjoint_calls_sound l (answered S x) (answered_sound S h x)

opened_call : (S : State) → Sound S → (x : Call) → open_answered S x ≡ answered S x
opened_call S h (insert e) = ap inserted (place_is S.map S.words S.colours h e)
opened_call S h (remove s) = ap removed (take_is S.map S.words S.colours h s)

pub disjoint_opened_calls : (l : List Call) (S : State) → disjoint_rule_lem S.map S.words S.colours ≡ 0 → all_open_answered S l ≡ all_answered S l
disjoint_opened_calls [] S h = refl
disjoint_opened_calls (x ∷ l) S h = rw (opened_call S h x) (disjoint_opened_calls l (answered S x) (answered_sound S h x))
