-- One bit of a number is written: that bit is the one written, and every other is as it was. Over
-- every number and every place.
use mathlib.Core.Path.{◌≡◌, refl, ap}
use mathlib.Core.Logic.{◌≢◌}
use mathlib.Core.Bool.{Bool, true, false, cond}
use Prim.Native.Nat.{ℕ, zero, suc, ◌+◌, ◌*◌, ◌/◌, ◌%◌, ◌^◌, ◌<◌}
use native.Mathlib.Omega.{arith}
use native.Mathlib.Nat.{pow-suc, div-div-eq-div-mul, mul_comm, mul_assoc, div-one, mod-one, mul-one, add-zero}
use lib.Pow.{pow_pos}
use lib.Arith.{mod-mul}
use lib.Dec.{eqb}
use borrow.Author.Tests.{eqb-true, eqb-false}
use Rattle.bitvec.specs.Bits.{bit, put}

-- a bit as a number
abbrev pub num : Bool → ℕ
num v = cond v 1 0

num_low : (v : Bool) → num v < 2
num_low true = omega arith
num_low false = omega arith

num_back : (v : Bool) → eqb (num v) 1 ≡ v
num_back true = refl
num_back false = refl

pub bit_put_same : (b j : ℕ) (v : Bool) → bit (put b j v) j ≡ v
unfolding bit put
bit_put_same b zero v =
    let e : (b / 2 * 2 + num v) % 2 ≡ num v = omega (arith, num_low v) in
    rw e (num_back v)
bit_put_same b (suc j) v =
    let e : (put (b / 2) j v * 2 + b % 2) / 2 ≡ put (b / 2) j v = omega arith in
    rw e (bit_put_same (b / 2) j v)

pub bit_put_other : (b j k : ℕ) (v : Bool) → k ≢ j → bit (put b j v) k ≡ bit b k
unfolding bit put
bit_put_other b zero zero v d = absurd (d refl)
bit_put_other b zero (suc k) v d = let e : (b / 2 * 2 + num v) / 2 ≡ b / 2 = omega (arith, num_low v) in rw e
bit_put_other b (suc j) zero v d = let e : (put (b / 2) j v * 2 + b % 2) % 2 ≡ b % 2 = omega arith in rw e
bit_put_other b (suc j) (suc k) v d =
    let e : (put (b / 2) j v * 2 + b % 2) / 2 ≡ put (b / 2) j v = omega arith in
    rw e (bit_put_other (b / 2) j k v (λ p. d (ap suc p)))

-- a bit that is v already
pub put_idle : (b j : ℕ) (v : Bool) → bit b j ≡ v → put b j v ≡ b
unfolding bit put
put_idle b zero true e = omega (arith, eqb-true (b % 2) 1 e)
put_idle b zero false e = go (eqb (b % 2) 1) refl e
  where
    go : (t : Bool) → eqb (b % 2) 1 ≡ t → t ≡ false → b / 2 * 2 + 0 ≡ b
    go true p q = let z : ◌≡◌ {A = ℕ} 0 1 = cc in absurd (omega arith)
    go false p q = omega (arith, eqb-false (b % 2) 1 p)
put_idle b (suc j) v e = let i : put (b / 2) j v ≡ b / 2 = put_idle (b / 2) j v e in rw i (omega arith)

-- numbers below 2 ^ n stay below it
pub put_small : (b j : ℕ) (v : Bool) (n : ℕ) → b < 2 ^ n → j < n → put b j v < 2 ^ n
unfolding put
put_small b j v zero h l = absurd (omega arith)
put_small b zero v (suc n) h l = let e : 2 ^ suc n ≡ 2 ^ n * 2 = pow-suc 2 n in omega (arith, num_low v)
put_small b (suc j) v (suc n) h l =
    let e : 2 ^ suc n ≡ 2 ^ n * 2 = pow-suc 2 n in
    omega (arith, put_small (b / 2) j v n (omega arith) (omega arith))

-- the same by quotients and remainders at the bit's weight
weigh : (b j : ℕ) → b / 2 ^ suc j ≡ b / 2 / 2 ^ j
weigh b j = rw (pow-suc 2 j, mul_comm (2 ^ j) 2, ← div-div-eq-div-mul b 2 (2 ^ j))

pub bit_weight : (b j : ℕ) → eqb (b / 2 ^ j % 2) 1 ≡ bit b j
unfolding bit
bit_weight b zero = rw div-one
bit_weight b (suc j) = rw weigh (bit_weight (b / 2) j)

pub put_weight : (b j : ℕ) (v : Bool) → (b / 2 ^ j / 2 * 2 + num v) * 2 ^ j + b % 2 ^ j ≡ put b j v
unfolding put
put_weight b zero v = simp (div-one, mod-one, mul-one, add-zero)
put_weight b (suc j) v =
    let m : b % 2 ^ suc j ≡ (b / 2 % 2 ^ j) * 2 + b % 2 = rw pow-suc (mod-mul b {m = 2 ^ j} {c = 2} (pow_pos j) (omega arith)) in
    let a : (b / 2 / 2 ^ j / 2 * 2 + num v) * 2 ^ suc j ≡ (b / 2 / 2 ^ j / 2 * 2 + num v) * 2 ^ j * 2 = rw (pow-suc, mul_assoc) in
    let i : (b / 2 / 2 ^ j / 2 * 2 + num v) * 2 ^ j + b / 2 % 2 ^ j ≡ put (b / 2) j v = put_weight (b / 2) j v in
    rw (weigh, m, a) (omega arith)
