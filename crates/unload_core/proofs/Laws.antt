-- The code against the rule, in the form that `search` takes.
use mathlib.Core.Path.{◌≡◌, sym, ap, ◌∙◌}
use mathlib.Core.List.{List}
use Prim.Native.Nat.{ℕ, suc, ◌-◌, ◌<◌, ◌≤◌}
use native.Mathlib.Omega.{arith}
use Rattle.words.specs.declared.interval.Span.{Span}
use Rattle.tree_edit.specs.Store.{Store, store}
use Rattle.tree_rm_rule.specs.Remove as rule
use Rattle.tree_rm.specs.Answers.{removal}
use Rattle.tree_rm.specs.declared.remove.Removed.{Removed}
use Rattle.first_rule.specs.First.{first_in}
use Rattle.unload_rule.specs.Sweep.{Sweep, still, one_more_lem, sweep}
use Rattle.unload_rule.proofs.Turns.{sweep_still, sweep_one}

pub root_is : (a : Removed) (X D : List ℕ) (R : rule.Removed) → removal a X D ≡ R → store X D a.root ≡ R.store
root_is a X D R e = ap (λ (r : rule.Removed). r.store) e

-- of a sweep from the store that is there now, with n entries left
module _ (q : Span) (W C : List ℕ) (n r : ℕ) where
  abbrev rest : Sweep
  rest = sweep (first_in q) n (store W C r) n

  -- nothing is left in the store
  over : n ≤ 0 → rest ≡ still (store W C r) n
  unfolding sweep
  over h = let e : n ≡ 0 = omega arith in rw e

  pub over_store : (S : Store) → S ≡ rest.store → n ≤ 0 → store W C r ≡ S
  over_store S e h = sym (e ∙ ap (λ (R : Sweep). R.store) (over h))

  pub over_count : (m : ℕ) → m ≡ rest.count → n ≤ 0 → 0 ≡ m
  over_count m e h = let z : n ≡ 0 = omega arith in sym (e ∙ ap (λ (R : Sweep). R.count) (over h) ∙ z)

  -- the search in it
  module _ (s : ℕ) (f : s ≡ first_in q W n r) where
    -- it finds none
    module _ (h : n ≤ s) where
      none : rest ≡ still (store W C r) n
      none = sweep_still (first_in q) n (store W C r) n (omega (arith, f))

      pub none_store : (S : Store) → S ≡ rest.store → store W C r ≡ S
      none_store S e = sym (e ∙ ap (λ (R : Sweep). R.store) none)

      pub none_count : (m : ℕ) → m ≡ rest.count → n ≡ m
      none_count m e = sym (e ∙ ap (λ (R : Sweep). R.count) none)

    -- it finds one, which goes
    module _ (h : s < n) (X D : List ℕ) (p : ℕ) (t : store X D p ≡ (rule.remove_rule W C n r s).store) where
      abbrev after : Sweep
      after = sweep (first_in q) (n - 1) (store X D p) (n - 1)

      less_is : (rule.remove_rule W C n r (first_in q W n r)).store ≡ store X D p
      less_is = ap (λ (a : ℕ). (rule.remove_rule W C n r a).store) (sym f) ∙ sym t

      one : rest ≡ one_more_lem after
      one =
          let e : n ≡ suc (n - 1) = omega arith in
          ap (λ (turns : ℕ). sweep (first_in q) turns (store W C r) n) e
          ∙ sweep_one (first_in q) (n - 1) (store W C r) n (omega (arith, f))
          ∙ ap (λ (S : Store). one_more_lem (sweep (first_in q) (n - 1) S (n - 1))) less_is

      pub one_store : (S : Store) → S ≡ rest.store → S ≡ after.store
      one_store S e = e ∙ ap (λ (R : Sweep). R.store) one

      pub one_count : (m : ℕ) → m ≡ rest.count → m ≡ after.count
      one_count m e = e ∙ ap (λ (R : Sweep). R.count) one
