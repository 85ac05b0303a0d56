-- Numbers by cases.
use mathlib.Core.Path.{◌≡◌, refl}
use mathlib.Core.Bool.{Bool, true, false}
use Prim.Native.Nat.{ℕ, zero, suc, ◌<◌, ◌≤◌}
use native.Mathlib.Omega.{arith}
use lib.Dec.{leb}
use borrow.Author.Tests.{leb-true, leb-false}

pub compare : {X : Type 0} (a b : ℕ) → (a ≤ b → X) → (b < a → X) → X
compare {X} a b x y = go (leb a b) refl
  where
    go : (t : Bool) → leb a b ≡ t → X
    go true e = x (leb-true a b e)
    go false e = y (leb-false a b e)

pub not_any : (m : ℕ) → (0 < m → ⊥) → m ≡ 0
not_any zero f = refl
not_any (suc m) f = absurd (f (omega arith))
