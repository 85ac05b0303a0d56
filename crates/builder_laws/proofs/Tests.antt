-- The tests of the input answer true exactly for what may be built.
use mathlib.Core.Path.{◌≡◌, refl, sym}
use mathlib.Core.Bool.{Bool, true, false, cond, true≢false}
use mathlib.Core.List.{List}
use Prim.Native.Nat.{ℕ, zero, suc, ◌+◌, ◌-◌, ◌<◌, ◌≤◌}
use native.Mathlib.Omega.{arith}
use native.Mathlib.Numerals.{add-one}
use borrow.Author.Tests.{ltb-true, lt-ltb}
use Rattle.tree.proofs.Cases.{compare}
use Rattle.tree.proofs.Orders.{le_sound, le_complete}
use Rattle.builder.specs.Input.{start_of, end_of, interval_of_lem, count, every, proper_at, in_order_lem, all_proper_lem, sorted}
use Rattle.builder_laws.specs.Input.{Input}

module _ (p : ℕ → Bool) where
  pub every_sound : (m k : ℕ) → every p k m ≡ true → (j : ℕ) → k ≤ j → j < k + m → p j ≡ true
  unfolding every
  every_sound zero k h j x y = absurd (omega arith)
  every_sound (suc m) k h j x y = go (p k) refl h (every_sound m (suc k))
    where
      go : (t : Bool) → p k ≡ t → cond t (every p (suc k) m) false ≡ true
          → (every p (suc k) m ≡ true → (j : ℕ) → suc k ≤ j → j < suc k + m → p j ≡ true) → p j ≡ true
      go false e q r = absurd (true≢false (sym q))
      go true e q r = compare j k (λ z. let i : j ≡ k = omega arith in rw i e) (λ z. r q j z (omega arith))

  every_complete : (m k : ℕ) → ((j : ℕ) → k ≤ j → j < k + m → p j ≡ true) → every p k m ≡ true
  unfolding every
  every_complete zero k h = refl
  every_complete (suc m) k h =
      let r : every p (suc k) m ≡ true = every_complete m (suc k) (λ j x y. h j (omega arith) (omega arith)) in
      rw (h k (omega arith) (omega arith)) r

module _ (S : List ℕ) where
  pub tests_sound : all_proper_lem S ≡ true → sorted S ≡ true → Input S (count S)
  unfolding all_proper_lem sorted proper_at in_order_lem
  tests_sound h i =
      record {
        proper = λ k x. ltb-true (start_of S k) (end_of S k) (every_sound (proper_at S) (count S) 0 h k (omega arith) (omega arith));
        rising = λ k x. rw (← add-one k)
            (le_sound (interval_of_lem S k) (interval_of_lem S (k + 1)) (every_sound (in_order_lem S) (count S - 1) 0 i k (omega arith) (omega arith)));
      }

  pub tests_complete : Input S (count S) → (all_proper_lem S ≡ true) × (sorted S ≡ true)
  unfolding all_proper_lem sorted proper_at in_order_lem
  tests_complete h = (
    every_complete (proper_at S) (count S) 0 (λ j x y. lt-ltb (start_of S j) (end_of S j) (h.proper j (omega arith))),
    every_complete (in_order_lem S) (count S - 1) 0
        (λ j x y. le_complete (interval_of_lem S j) (interval_of_lem S (j + 1)) (rw (add-one j) (h.rising j (omega arith)))),
  )
