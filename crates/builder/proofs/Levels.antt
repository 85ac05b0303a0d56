-- The levels of a map: the logarithm of its size.
use mathlib.Core.Path.{◌≡◌, refl}
use mathlib.Core.Bool.{Bool, true, false, cond}
use Prim.Native.Nat.{ℕ, zero, suc, ◌+◌, ◌-◌, ◌*◌, ◌/◌, ◌^◌, ◌<◌, ◌≤◌}
use native.Mathlib.Omega.{arith}
use native.Mathlib.Numerals.{sub-one, add-one}
use native.Mathlib.Nat.{pow-suc}
use lib.Dec.{leb}
use borrow.Author.Tests.{leb-true, leb-false, le-leb, lt-leb}
use Rattle.builder.specs.Build.{log, levels}

-- the greatest D such that 2 ^ D ≤ m
pub log_is : (g m : ℕ) → 0 < m → m < 2 ^ suc g → (2 ^ log g m ≤ m) × (m < 2 ^ suc (log g m))
unfolding log
log_is zero m h k = (omega arith, k)
log_is (suc g) m h k =
    go (leb m 1) refl (λ q. log_is g (m / 2) (omega arith) (let p : 2 ^ suc (suc g) ≡ 2 ^ suc g * 2 = pow-suc 2 (suc g) in omega arith))
  where
    go : (t : Bool) → leb m 1 ≡ t → (1 < m → (2 ^ log g (m / 2) ≤ m / 2) × (m / 2 < 2 ^ suc (log g (m / 2))))
        → (2 ^ cond t 0 (suc (log g (m / 2))) ≤ m) × (m < 2 ^ suc (cond t 0 (suc (log g (m / 2)))))
    go true e q = let z : m ≤ 1 = leb-true m 1 e in (omega arith, omega arith)
    go false e q =
        let (x, y) = q (leb-false m 1 e) in
        let p : 2 ^ suc (log g (m / 2)) ≡ 2 ^ log g (m / 2) * 2 = pow-suc 2 (log g (m / 2)) in
        let p' : 2 ^ suc (suc (log g (m / 2))) ≡ 2 ^ suc (log g (m / 2)) * 2 = pow-suc 2 (suc (log g (m / 2))) in
        (omega arith, omega arith)

-- `log_of`, in its own terms
module _ (g m r : ℕ) where
  pub log_zero : g ≡ 0 → 0 ≡ log g m
  unfolding log
  log_zero e = rw e

  pub log_one : (g ≡ 0 → ⊥) → m ≤ 1 → 0 ≡ log g m
  unfolding log
  log_one e h = go g
    where
      go : (g : ℕ) → 0 ≡ log g m
      go zero = refl
      go (suc g) = rw (le-leb m 1 h)

  pub log_more : (g ≡ 0 → ⊥) → 1 < m → r ≡ log (g - 1) (m / 2) → r + 1 ≡ log g m
  unfolding log
  log_more e h q = go g e q
    where
      go : (g : ℕ) → (g ≡ 0 → ⊥) → r ≡ log (g - 1) (m / 2) → r + 1 ≡ log g m
      go zero e q = absurd (e refl)
      go (suc g) e q = let q' : r ≡ log g (m / 2) = rw (sub-one (suc g)) at q in rw (lt-leb m 1 h) (rw (add-one, q'))

pub levels_is : (n r : ℕ) → r ≡ log 16 (n + 1) → r + 1 ≡ levels n
unfolding levels
levels_is n r e = rw (add-one r, e)

-- a map of n entries has room in its levels
pub levels_few : (n : ℕ) → n ≤ 65535 → n < 2 ^ levels n
unfolding levels
levels_few n few = omega (arith, (log_is 16 (n + 1) (omega arith) (omega arith)).1)
