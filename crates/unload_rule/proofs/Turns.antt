-- The turns of a sweep one by one, on any words.
use mathlib.Core.Path.{◌≡◌, refl}
use mathlib.Core.Bool.{Bool, true, false, cond}
use mathlib.Core.List.{List, [], ◌∷◌}
use Prim.Native.Nat.{ℕ, zero, suc, ◌+◌, ◌-◌, ◌<◌, ◌≤◌}
use native.Mathlib.Omega.{arith}
use lib.Dec.{ltb}
use borrow.Author.Tests.{ltb-true, lt-ltb, le-ltb}
use Rattle.tree_edit.specs.Store.{Store}
use Rattle.tree_edit.specs.Inside.{Inside}
use Rattle.tree_edit.proofs.Inside.{inside_trans}
use Rattle.tree_rm_rule.proofs.Inside.{removed_inside}
use Rattle.unload_rule.specs.Sweep.{Sweep, next, less, still, one_more_lem, sweep, gone_slots}

module _ (find : List ℕ → ℕ → ℕ → ℕ) where
  -- none is left that goes
  pub sweep_still : (turns : ℕ) (S : Store) (n : ℕ) → n ≤ next find S n → sweep find turns S n ≡ still S n
  unfolding sweep
  sweep_still zero S n h = refl
  sweep_still (suc turns) S n h = rw (le-ltb (next find S n) n h)

  -- one goes, and then the others
  pub sweep_one : (turns : ℕ) (S : Store) (n : ℕ) → next find S n < n → sweep find (suc turns) S n ≡ one_more_lem (sweep find turns (less S n (next find S n)) (n - 1))
  unfolding sweep
  sweep_one turns S n h = rw (lt-ltb (next find S n) n h)

  -- the slots that go, in the same two cases
  pub slots_none : (turns : ℕ) (S : Store) (n : ℕ) → n ≤ next find S n → gone_slots find turns S n ≡ []
  unfolding gone_slots
  slots_none zero S n h = refl
  slots_none (suc turns) S n h = rw (le-ltb (next find S n) n h)

  pub slots_one : (turns : ℕ) (S : Store) (n : ℕ) → next find S n < n
      → gone_slots find (suc turns) S n ≡ next find S n ∷ gone_slots find turns (less S n (next find S n)) (n - 1)
  unfolding gone_slots
  slots_one turns S n h = rw (lt-ltb (next find S n) n h)

  -- those left and those that went
  pub sweep_sum : (turns : ℕ) (S : Store) (n : ℕ) → (sweep find turns S n).count + (sweep find turns S n).gone ≡ n
  unfolding sweep
  sweep_sum zero S n = omega arith
  sweep_sum (suc turns) S n = go (ltb (next find S n) n) refl (sweep_sum turns (less S n (next find S n)) (n - 1))
    where
      R : Bool → Sweep
      R t = cond t (one_more_lem (sweep find turns (less S n (next find S n)) (n - 1))) (still S n)

      go : (t : Bool) → ltb (next find S n) n ≡ t
          → (sweep find turns (less S n (next find S n)) (n - 1)).count + (sweep find turns (less S n (next find S n)) (n - 1)).gone ≡ n - 1
          → (R t).count + (R t).gone ≡ n
      go true e h = omega (arith, ltb-true (next find S n) n e, h)
      go false e h = omega arith

  -- if none went, all is as it was
  pub sweep_none : (turns : ℕ) (S : Store) (n : ℕ) → (sweep find turns S n).gone ≡ 0 → sweep find turns S n ≡ still S n
  unfolding sweep
  sweep_none zero S n e = refl
  sweep_none (suc turns) S n e = go (ltb (next find S n) n) e
    where
      go : (t : Bool) → (cond t (one_more_lem (sweep find turns (less S n (next find S n)) (n - 1))) (still S n)).gone ≡ 0
          → cond t (one_more_lem (sweep find turns (less S n (next find S n)) (n - 1))) (still S n) ≡ still S n
      go true z = absurd (omega (arith, z))
      go false z = refl

  -- what each removal keeps, a sweep keeps
  pub sweep_keeps : (Q : Store → ℕ → Type 0) → ((S : Store) (n s : ℕ) → s < n → Q S n → Q (less S n s) (n - 1))
      → (turns : ℕ) (S : Store) (n : ℕ) → Q S n → Q (sweep find turns S n).store (sweep find turns S n).count
  unfolding sweep
  sweep_keeps Q f zero S n h = h
  sweep_keeps Q f (suc turns) S n h =
      go (ltb (next find S n) n) refl (λ l. sweep_keeps Q f turns (less S n (next find S n)) (n - 1) (f S n (next find S n) l h))
    where
      R : Bool → Sweep
      R t = cond t (one_more_lem (sweep find turns (less S n (next find S n)) (n - 1))) (still S n)

      go : (t : Bool) → ltb (next find S n) n ≡ t
          → (next find S n < n
          → Q (sweep find turns (less S n (next find S n)) (n - 1)).store (sweep find turns (less S n (next find S n)) (n - 1)).count)
          → Q (R t).store (R t).count
      go true e rec = rec (ltb-true (next find S n) n e)
      go false e rec = h

  -- what is written lies below the count
  pub sweep_inside : (turns : ℕ) (S : Store) (n : ℕ) → Inside n S.words S.colours (sweep find turns S n).store
  sweep_inside turns S n =
      (sweep_keeps (λ T k. (k ≤ n) × Inside n S.words S.colours T)
      (λ T k s l h. (
        omega (arith, h.0),
        inside_trans n k S T (less T k s) h.0 h.1 (removed_inside T.words T.colours k T.root s l),
      ))
      turns S n
      (omega arith, record { words_length = refl; colours_length = refl; words_kept = λ f a u. refl; colours_kept = λ a u. refl })).1
