-- The kinds of a bound.
use mathlib.Core.Path.{◌≡◌, refl}
use Prim.Native.Nat.{ℕ}
use Rattle.words.specs.Intervals.{bound_of}
use Rattle.std.specs.declared.ops.Bound.TheVariants.{Included, Excluded, Unbounded}

-- 0 Included, 1 Excluded, 2 Unbounded
pub bounds_are : (x : ℕ) → (bound_of 0 x ≡ Included x) × (bound_of 1 x ≡ Excluded x) × (bound_of 2 x ≡ Unbounded)
bounds_are x = (refl, refl, refl)
