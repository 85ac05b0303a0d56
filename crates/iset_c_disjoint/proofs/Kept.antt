-- What was lent stays if a call is refused, by an export's own refusals too. An insertion that is
-- refused with 13 writes its answer, and nothing else.
use mathlib.Core.Path.{◌≡◌, refl}
use mathlib.Core.Bool.{Bool, true, false, cond}
use mathlib.Core.List.{List, [], ◌∷◌}
use Prim.Native.Nat.{ℕ, zero, suc}
use native.Mathlib.Omega.{arith}
use lib.ListN.{length}
use lib.Dec.{eqb, ltb}
use borrow.Author.Tests.{ne_eqb}
use Rattle.words.specs.declared.node.Entry.{Entry}
use Rattle.iter.specs.Drains.{filled}
use Rattle.iset.specs.Effects.{Effect, effect}
use Rattle.iset.specs.Insert.{InsertAnswer, insert_entry_lem}
use Rattle.iset.specs.Remove.{open_remove_number, remove_slot_lem, open_remove_call}
use Rattle.iset.specs.declared.Map.{Map}
use Rattle.disjoint.specs.Place.{open_place_number, place_number, open_place_call, place_call}
use Rattle.disjoint.specs.Take.{take_number, take_call}
use Rattle.iset_c.specs.Replies.{Reply, Exit, exit, number, left, remove_reply, insert_reply}
use Rattle.iset_c.proofs.Kept.{Kept, effect_kept}
use Rattle.iset_c_disjoint.specs.Replies.{handed_met, placed_exit, place_exit, open_place_exit, take_exit, open_take_exit}

-- a refusal leaves the store; only 13 writes the answer
pub record PlaceKept (x : Exit) (A numbers : List ℕ) (l : List (List ℕ)) : Type 0 where
  pub refused : (x.number ≡ 0 → ⊥) → (x.number ≡ 13 → ⊥) → x ≡ exit x.number A l
  pub met : x.number ≡ 13 → x ≡ exit 13 (filled numbers A) l

module _ (A : List ℕ) (R : Reply) (old new : List (List ℕ)) (f : (R.no ≡ 0 → ⊥) → new ≡ old) where
  slices_left : (number true A R ≡ 0 → ⊥) → left true A R old new ≡ old
  unfolding number left
  slices_left d = go (ltb (length A) (length R.numbers)) d
    where
      go : (s : Bool) → (◌≡◌ {A = ℕ} (cond s 101 R.no) 0 → ⊥) → cond s old new ≡ old
      go true e = refl
      go false e = f e

  kept_exit : PlaceKept (exit (number true A R) (handed_met A R) (left true A R old new)) A R.numbers old
  unfolding handed_met
  kept_exit = record {
    refused = λ d e. rw (slices_left d, ne_eqb (number true A R) 0 d, ne_eqb (number true A R) 13 e) refl;
    met = λ z. rw (slices_left (λ y. omega (arith, y, z)), z) refl;
  }

by_number : (A W C : List ℕ) (k : ℕ) (x : Effect InsertAnswer) (a : InsertAnswer) → x.answer.no ≡ 0
    → let c : Effect InsertAnswer = cond (eqb k 0) x (effect a W C) in
    PlaceKept (placed_exit A W C c) A (insert_reply c.answer).numbers (W ∷ C ∷ [])
by_number A W C zero x a z = kept_exit A (insert_reply x.answer) (W ∷ C ∷ []) (x.words ∷ x.colours ∷ []) (λ d. absurd (d z))
by_number A W C (suc k) x a z =
    rw (ne_eqb (suc k) 0 (λ e. omega arith)) (kept_exit A (insert_reply a) (W ∷ C ∷ []) (W ∷ C ∷ []) (λ d. refl))

module _ (A : List ℕ) (m : Map) (W C : List ℕ) where
  pub place_kept : (e : Entry) → PlaceKept (place_exit A m W C e) A (insert_reply (place_call m W C e).answer).numbers (W ∷ C ∷ [])
  unfolding place_call
  place_kept e = by_number A W C (place_number m W C e) (insert_entry_lem m W C e) _ refl

  pub open_place_kept : (e : Entry) → PlaceKept (open_place_exit A m W C e) A (insert_reply (open_place_call m W C e).answer).numbers (W ∷ C ∷ [])
  unfolding open_place_call
  open_place_kept e = by_number A W C (open_place_number m W C e) (insert_entry_lem m W C e) _ refl

  pub take_kept : (s : ℕ) → Kept (take_exit A m W C s) A (W ∷ C ∷ [])
  unfolding take_call
  take_kept s = effect_kept remove_reply A W C (take_number m W C s) (remove_slot_lem m W C s) _ refl

  pub open_take_kept : (s : ℕ) → Kept (open_take_exit A m W C s) A (W ∷ C ∷ [])
  unfolding open_remove_call
  open_take_kept s = effect_kept remove_reply A W C (open_remove_number m W C s) (remove_slot_lem m W C s) _ refl
