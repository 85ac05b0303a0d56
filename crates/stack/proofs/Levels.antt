-- One level's state is written: that level has it, and every other is as it was. Over every number
-- and every level.
use mathlib.Core.Path.{◌≡◌, refl, sym, ap, ◌∙◌}
use mathlib.Core.Logic.{◌≢◌}
use mathlib.Core.Bool.{Bool, true, false}
use Prim.Native.Nat.{ℕ, zero, suc, ◌+◌, ◌*◌, ◌/◌, ◌%◌, ◌^◌, ◌<◌}
use native.Mathlib.Omega.{arith}
use native.Mathlib.Nat.{pow-suc, mul_comm, mul_assoc, div-one, mod-one, mul-one, add-zero, div-div-eq-div-mul, mul-add-div_right, div-eq_of_lt, mod-eq_of_lt, mod-lt, mul-add-mod_self_right}
use lib.Arith.{mod-mul}
use lib.Dec.{eqb}
use borrow.Author.Tests.{eqb-true, eqb-false}
use Rattle.bitvec.specs.Bits.{bit, put}
use Rattle.bitvec.proofs.Numbers.{num, put_idle}
use Rattle.stack.specs.States.{state_at_lem, put_state_lem}

pub four : (j : ℕ) → (4 ^ suc j ≡ 4 * 4 ^ j) × (0 < 4 ^ j)
four zero = (omega arith, omega arith)
four (suc j) = (omega arith, omega (arith, four j))

-- quotient and remainder of a number that is given by them
pub over : (q r w : ℕ) → r < w → ((q * w + r) / w ≡ q) × ((q * w + r) % w ≡ r)
over q r w h =
    let p : 0 < w = omega arith in
    (mul-add-div_right p q r ∙ rw (div-eq_of_lt h) (omega arith), mul-add-mod_self_right q w r ∙ mod-eq_of_lt h)

pub state_is : (q r j : ℕ) → q < 4 → r < 4 ^ j → state_at_lem (q * 4 ^ j + r) j ≡ q
unfolding state_at_lem
state_is q r j h i = rw (over q r (4 ^ j) i).0 (mod-eq_of_lt h)

pub put_is : (q r j v : ℕ) → q < 4 → r < 4 ^ j → put_state_lem (q * 4 ^ j + r) j v ≡ v * 4 ^ j + r
unfolding put_state_lem
put_is q r j v h i = rw ((over q r (4 ^ j) i).0, (over q r (4 ^ j) i).1, div-eq_of_lt h) (omega arith)

-- a level above all bits is 00 already
pub put_above : (x j : ℕ) → x < 4 ^ j → put_state_lem x j 0 ≡ x
unfolding put_state_lem
put_above x j h = rw (div-eq_of_lt h, mod-eq_of_lt h) (omega arith)

pub state_low : (x j : ℕ) → state_at_lem x j < 4
unfolding state_at_lem
state_low x j = mod-lt (x / 4 ^ j) (omega arith)

-- level 0, and the levels above it
state_first : (x : ℕ) → state_at_lem x 0 ≡ x % 4
unfolding state_at_lem
state_first x = rw div-one

put_first : (x v : ℕ) → put_state_lem x 0 v ≡ x / 4 * 4 + v
unfolding put_state_lem
put_first x v = simp (div-one, mod-one, mul-one, add-zero)

weigh : (x j : ℕ) → x / 4 ^ suc j ≡ x / 4 / 4 ^ j
weigh x j = rw (pow-suc 4 j, mul_comm (4 ^ j) 4, ← div-div-eq-div-mul x 4 (4 ^ j))

state_next : (x j : ℕ) → state_at_lem x (suc j) ≡ state_at_lem (x / 4) j
unfolding state_at_lem
state_next x j = rw weigh

put_next : (x j v : ℕ) → put_state_lem x (suc j) v ≡ put_state_lem (x / 4) j v * 4 + x % 4
unfolding put_state_lem
put_next x j v =
    let m : x % 4 ^ suc j ≡ (x / 4 % 4 ^ j) * 4 + x % 4 = rw pow-suc (mod-mul x {m = 4 ^ j} {c = 4} (four j).1 (omega arith)) in
    let a : (x / 4 / 4 ^ j / 4 * 4 + v) * 4 ^ suc j ≡ (x / 4 / 4 ^ j / 4 * 4 + v) * 4 ^ j * 4 = rw (pow-suc, mul_assoc) in
    rw (weigh, m, a) (omega arith)

after_first : (x v : ℕ) → v < 4 → ((x / 4 * 4 + v) / 4 ≡ x / 4) × ((x / 4 * 4 + v) % 4 ≡ v)
after_first x v h = omega arith

above_first : (x y : ℕ) → ((y * 4 + x % 4) / 4 ≡ y) × ((y * 4 + x % 4) % 4 ≡ x % 4)
above_first x y = omega arith

pub state_put_same : (x j v : ℕ) → v < 4 → state_at_lem (put_state_lem x j v) j ≡ v
state_put_same x zero v h = rw (put_first, state_first) (after_first x v h).1
state_put_same x (suc j) v h = rw (put_next, state_next, (above_first x (put_state_lem (x / 4) j v)).0) (state_put_same (x / 4) j v h)

pub state_put_other : (x j k v : ℕ) → v < 4 → k ≢ j → state_at_lem (put_state_lem x j v) k ≡ state_at_lem x k
state_put_other x zero zero v h d = absurd (d refl)
state_put_other x zero (suc k) v h d = rw (put_first, state_next, state_next, (after_first x v h).0)
state_put_other x (suc j) zero v h d = rw (put_next, state_first, state_first) (above_first x (put_state_lem (x / 4) j v)).1
state_put_other x (suc j) (suc k) v h d =
    rw (put_next, state_next, state_next, (above_first x (put_state_lem (x / 4) j v)).0) (state_put_other (x / 4) j k v h (λ e. d (ap suc e)))

-- numbers below 4 ^ m stay below it
pub put_low : (x j v m : ℕ) → x < 4 ^ m → j < m → v < 4 → put_state_lem x j v < 4 ^ m
put_low x j v zero h l i = absurd (omega arith)
put_low x zero v (suc m) h l i = rw put_first (omega (arith, four m))
put_low x (suc j) v (suc m) h l i = rw put_next (omega (arith, four m, put_low (x / 4) j v m (omega (arith, four m)) (omega arith) i))

-- and those below 4 ^ (m + 1) come below 4 ^ m, where level m is cleared
pub cleared_low : (x m : ℕ) → x < 4 ^ suc m → put_state_lem x m 0 < 4 ^ m
cleared_low x zero h = rw put_first (omega arith)
cleared_low x (suc m) h = rw put_next (omega (arith, four m, cleared_low (x / 4) m (omega (arith, four m))))

twice : (j : ℕ) → 2 * suc j ≡ suc (suc (2 * j))
twice j = omega arith

pub four_two : (j : ℕ) → 4 ^ j ≡ 2 ^ (2 * j)
four_two zero = refl
four_two (suc j) = rw twice (omega (arith, four_two j))

-- the bridge to single bits: level j is made of the bits 2j and 2j + 1
bit_num : (x : ℕ) → num (eqb (x % 2) 1) ≡ x % 2
bit_num x = go (eqb (x % 2) 1) refl
  where
    go : (t : Bool) → eqb (x % 2) 1 ≡ t → num t ≡ x % 2
    go true e = sym (eqb-true (x % 2) 1 e)
    go false e = omega (arith, eqb-false (x % 2) 1 e)

two_bits : (x : ℕ) → x % 4 ≡ x % 2 + 2 * (x / 2 % 2)
two_bits x = omega arith

halves : (x : ℕ) → x / 2 / 2 ≡ x / 4
halves x = omega arith

bit_up : (x k : ℕ) → bit x (suc (suc k)) ≡ bit (x / 4) k
unfolding bit
bit_up x k = rw halves

pub state_bits : (x j : ℕ) → state_at_lem x j ≡ num (bit x (2 * j)) + 2 * num (bit x (suc (2 * j)))
unfolding bit
state_bits x zero = rw (state_first, bit_num x, bit_num (x / 2)) (two_bits x)
state_bits x (suc j) = rw (state_next, twice, bit_up, bit_up) (state_bits (x / 4) j)

pub put_bits : (x j : ℕ) (a b : Bool) → put_state_lem x j (num a + 2 * num b) ≡ put (put x (2 * j) a) (suc (2 * j)) b
unfolding put
put_bits x zero true b = rw put_first (omega arith)
put_bits x zero false b = rw put_first (omega arith)
put_bits x (suc j) a b =
    let y : ℕ = put (x / 2 / 2) (2 * j) a in
    let e = over (y * 2 + x / 2 % 2) (x % 2) 2 (omega arith) in
    let f = over y (x / 2 % 2) 2 (omega arith) in
    rw (put_next, put_bits (x / 4) j a b, twice, e.0, f.0, e.1, f.1, halves, two_bits) (omega arith)

-- `go_left` sets the last bit of its level and leaves every other bit
pub left_bit : (x j : ℕ) → put_state_lem x j (state_at_lem x j % 2 + 2) ≡ put x (suc (2 * j)) true
left_bit x j =
    let e : state_at_lem x j % 2 + 2 ≡ num (bit x (2 * j)) + 2 * num true = rw (state_bits x j) (go (bit x (2 * j)) (bit x (suc (2 * j)))) in
    rw e (put_bits x j (bit x (2 * j)) true ∙ rw (put_idle x (2 * j) (bit x (2 * j)) refl))
  where
    go : (a b : Bool) → (num a + 2 * num b) % 2 + 2 ≡ num a + 2 * num true
    go true true = refl
    go true false = refl
    go false true = refl
    go false false = refl
