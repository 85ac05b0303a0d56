-- What an export hands out, in the form that `search` takes.
use mathlib.Core.Path.{◌≡◌, refl, sym, ap, ◌∙◌}
use mathlib.Core.Bool.{true}
use mathlib.Core.List.{List, [], ◌∷◌}
use Prim.Native.Nat.{ℕ, ◌<◌, ◌≤◌}
use native.Mathlib.Omega.{arith}
use lib.ListN.{length}
use borrow.Author.Tests.{lt-ltb, le-ltb, ne_eqb}
use Rattle.words.specs.Refusals.{refusal_number}
use Rattle.words.specs.declared.refusal.Refusal.{Refusal}
use Rattle.words.specs.declared.refusal.Refusal.TheVariants.{Overlap}
use Rattle.words.proofs.Refusals.{refusal_at, at_number, number_pos}
use Rattle.std.specs.Prelude.{Result, Ok, Err}
use Rattle.iter.specs.Drains.{filled}
use Rattle.iset.specs.Effects.{Effect, effect}
use Rattle.iset.specs.Insert.{InsertAnswer}
use Rattle.iset.specs.declared.Map.{Map}
use Rattle.iset.specs.declared.insert.Inserted.{Inserted}
use Rattle.disjoint.specs.Place.{refused_placement, place_answer}
use Rattle.disjoint.specs.declared.insert.Blocked.{Blocked}
use Rattle.iset_c.specs.Replies.{Reply, exit, number, left, inserted_numbers, insert_reply}
use Rattle.iset_c_disjoint.specs.Replies.{handed_met, placed_exit}

-- an answer with room: the number, and what is handed out by it
module _ (A : List ℕ) (R : Reply) (h : length R.numbers ≤ length A) where
  number_is : number true A R ≡ R.no
  unfolding number
  number_is = rw (le-ltb (length A) (length R.numbers) h)

  met_handed : R.no ≡ 13 → filled R.numbers A ≡ handed_met A R
  unfolding handed_met
  met_handed z = rw (number_is, z)

  done_handed : R.no ≡ 0 → filled R.numbers A ≡ handed_met A R
  unfolding handed_met
  done_handed z = rw (number_is, z)

  kept_handed : (R.no ≡ 0 → ⊥) → (R.no ≡ 13 → ⊥) → A ≡ handed_met A R
  unfolding handed_met
  kept_handed d f = rw (number_is, ne_eqb R.no 0 d, ne_eqb R.no 13 f)

only_overlap : (y : Refusal) → refusal_number y ≡ 13 → y ≡ Overlap
only_overlap y e = sym (at_number y) ∙ ap refusal_at e

-- a refused insertion
module _ (m : Map) (y : Refusal) (s k : ℕ) (A : List ℕ) (h : 5 ≤ length A) (p : k ≡ refusal_number y) where
  abbrev R : Reply
  R = insert_reply (refused_placement m (refusal_number y) s)

  pub refused_number : k ≡ number true A (insert_reply (refused_placement m (refusal_number y) s))
  refused_number = rw (number_is A R h) p

  pub met_answer : y ≡ Overlap → (X : List ℕ) → X ≡ filled (inserted_numbers m s 0) A → X ≡ handed_met A (insert_reply (refused_placement m (refusal_number y) s))
  met_answer z X q = q ∙ met_handed A R h (ap refusal_number z)

  pub refused_answer : (y ≡ Overlap → ⊥) → A ≡ handed_met A (insert_reply (refused_placement m (refusal_number y) s))
  refused_answer d = kept_handed A R h (λ f. omega (arith, number_pos y)) (λ f. d (only_overlap y f))

-- an insertion, by its result t
module _ (m : Map) (t : Result Inserted Blocked) (A : List ℕ) where
  pub placed_refused : (y : Blocked) → t ≡ Err y → (r : ℕ) → r ≡ number true A (insert_reply (refused_placement m (refusal_number y.why) y.slot))
      → r ≡ number true A (insert_reply (place_answer m t))
  placed_refused y q r p = rw q p

  pub placed_kept : (y : Blocked) → t ≡ Err y → (X : List ℕ) → X ≡ handed_met A (insert_reply (refused_placement m (refusal_number y.why) y.slot))
      → X ≡ handed_met A (insert_reply (place_answer m t))
  placed_kept y q X p = rw q p

  pub placed_done : (g : Inserted) → t ≡ Ok g → 5 ≤ length A → 0 ≡ number true A (insert_reply (place_answer m t))
  placed_done g q h = rw (q, number_is A (insert_reply (place_answer m (Ok g))) h) refl

  pub placed_answer : (g : Inserted) → t ≡ Ok g → 5 ≤ length A → (X : List ℕ) → X ≡ filled (inserted_numbers g.map g.slot g.reach) A
      → X ≡ handed_met A (insert_reply (place_answer m t))
  placed_answer g q h X p = rw q (p ∙ done_handed A (insert_reply (place_answer m (Ok g))) h refl)

-- the export of an insertion
module _ (A W C : List ℕ) where
  pub short_placed : (k : Effect InsertAnswer) → length A < 5 → exit 101 A (W ∷ C ∷ []) ≡ placed_exit A W C k
  unfolding number handed_met left
  short_placed k h = rw (lt-ltb (length A) 5 h)

  pub placed_exit_lem : 5 ≤ length A → (m : Map) (t : Result Inserted Blocked) (k : Effect InsertAnswer) (Y Z : List ℕ) → effect (place_answer m t) Y Z ≡ k → (r : ℕ) (X : List ℕ)
      → r ≡ number true A (insert_reply (place_answer m t)) → X ≡ handed_met A (insert_reply (place_answer m t))
      → exit r X (Y ∷ Z ∷ []) ≡ placed_exit A W C k
  unfolding left
  placed_exit_lem h m t k Y Z e r X p q = rw (← e, p, q, le-ltb (length A) 5 h)
