-- A test that the code made, against a rule that goes by the same test: in the form that `search`
-- takes.
use mathlib.Core.Path.{◌≡◌, sym, ◌∙◌}
use mathlib.Core.Bool.{Bool, true, false, cond}
use Prim.Native.Nat.{ℕ, ◌<◌, ◌≤◌}
use lib.Dec.{eqb, ltb}
use borrow.Author.Tests.{lt-ltb, le-ltb, eq-eqb, ne_eqb}

module _ {A : Type 0} (a b : ℕ) (r x y : A) where
  pub less : a < b → r ≡ x → r ≡ cond (ltb a b) x y
  less h e = rw (lt-ltb a b h) e

  pub not_less : b ≤ a → r ≡ y → r ≡ cond (ltb a b) x y
  not_less h e = rw (le-ltb a b h) e

  pub equal : a ≡ b → r ≡ x → r ≡ cond (eqb a b) x y
  equal h e = rw (eq-eqb a b h) e

  pub unequal : (a ≡ b → ⊥) → r ≡ y → r ≡ cond (eqb a b) x y
  unequal h e = rw (ne_eqb a b h) e

-- and a test that a function made: it answered b, and its rule is d
module _ {A : Type 0} (b d : Bool) (r x y : A) (e : b ≡ d) where
  pub picked : b ≡ true → r ≡ x → r ≡ cond d x y
  picked t q = rw (sym e ∙ t) q

  pub passed : b ≡ false → r ≡ y → r ≡ cond d x y
  passed t q = rw (sym e ∙ t) q
