-- Laws of the tests of the input.
use mathlib.Core.Path.{◌≡◌, sym, ◌∙◌}
use mathlib.Core.Bool.{Bool, true, false, cond}
use mathlib.Core.List.{List}
use Prim.Native.Nat.{ℕ, suc, ◌+◌, ◌-◌, ◌<◌, ◌≤◌}
use native.Mathlib.Omega.{arith}
use native.Mathlib.Numerals.{add-one}
use Rattle.builder.specs.Input.{count, every, proper_at, in_order_lem, all_proper_lem, sorted}

-- a loop over the places below n, as far as place k; t is the answer that is sought
module _ (p : ℕ → Bool) (t r : Bool) (n k : ℕ) where
  step : k < n → every p k (n - k) ≡ cond (p k) (every p (k + 1) (n - (k + 1))) false
  unfolding every
  step h = let e : n - k ≡ suc (n - (k + 1)) = omega arith in rw (e, add-one k)

  pub every_on : t ≡ every p k (n - k) → k < n → r ≡ p k → r ≡ true → t ≡ every p (k + 1) (n - (k + 1))
  every_on i h e q = i ∙ step h ∙ rw (sym e ∙ q)

  pub every_not : t ≡ every p k (n - k) → k < n → r ≡ p k → r ≡ false → false ≡ t
  every_not i h e q = sym (i ∙ step h ∙ rw (sym e ∙ q))

pub every_end : (p : ℕ → Bool) (t : Bool) (n k : ℕ) → t ≡ every p k (n - k) → n ≤ k → true ≡ t
unfolding every
every_end p t n k i h = let z : n - k ≡ 0 = omega arith in sym (i ∙ rw z)

pub proper_start : (S : List ℕ) → all_proper_lem S ≡ every (proper_at S) 0 (count S - 0)
unfolding all_proper_lem
proper_start S = let z : count S - 0 ≡ count S = omega arith in rw z

pub sorted_start : (S : List ℕ) → sorted S ≡ every (in_order_lem S) 0 (count S - 1 - 0)
unfolding sorted
sorted_start S = let z : count S - 1 - 0 ≡ count S - 1 = omega arith in rw z
