-- The weights of bits: the table's rule, proved once for all of it; what is in a number at the
-- weight of a bit, and the number with that bit written.
use mathlib.Core.Path.{◌≡◌, refl, sym, ap, ◌∙◌}
use mathlib.Core.Bool.{Bool, true, false, not}
use mathlib.Core.List.{List, [], ◌∷◌}
use Prim.Native.Nat.{ℕ, zero, suc, ◌+◌, ◌-◌, ◌*◌, ◌/◌, ◌%◌, ◌^◌, ◌<◌, ◌≤◌}
use native.Mathlib.Omega.{arith}
use native.Mathlib.Nat.{add-zero, zero-add, add-mul, div-add-mod', one-mul, zero-mul}
use lib.ListN.{length, get_or}
use lib.Dec.{eqb}
use lib.Pow.{pow_pos, high_ones}
use lib.Bits.{bit_and, and_high}
use borrow.Author.Tests.{eqb-true, eqb-false, ne_eqb}
use Rattle.bitvec.specs.Bits.{bit, put}
use Rattle.bitvec.proofs.Numbers.{num, bit_weight, put_weight}

-- n powers of two, from 2 ^ i on
abbrev powers : ℕ → ℕ → List ℕ
powers i zero = []
powers i (suc n) = 2 ^ i ∷ powers (suc i) n

powers_at : (i n k : ℕ) → k < n → get_or (powers i n) k 0 ≡ 2 ^ (i + k)
powers_at i zero k h = absurd (omega arith)
powers_at i (suc n) zero h = rw add-zero
powers_at i (suc n) (suc k) h = powers_at (suc i) n k (omega arith) ∙ ap (λ (m : ℕ). 2 ^ m) (omega arith)

-- the test of a table t, computed over the whole of it: its entries are 2 ^ 0, 2 ^ 1, ..
unfoldable pub Weighs : List ℕ → Type 0
Weighs t = t ≡ powers 0 (length t)

-- a table that passes has 2 ^ k at each place k
pub weight_at : (t : List ℕ) (k : ℕ) → Weighs t → k < length t → get_or t k 0 ≡ 2 ^ k
unfolding Weighs
weight_at t k e h = ap (λ (l : List ℕ). get_or l k 0) e ∙ powers_at 0 (length t) k h ∙ ap (λ (m : ℕ). 2 ^ m) (zero-add k)

-- a number's digit at a weight, taken away, and with another one in its place: to the base c, so
-- that it may be a bit or two of them
module _ (x w c : ℕ) where
  digit_in : x / w / c * c * w + (x / w % c) * w + x % w ≡ x
  digit_in = rw (← add-mul, div-add-mod', div-add-mod')

  pub digit_le : (x / w % c) * w ≤ x
  digit_le = omega (arith, digit_in)

  pub digit_put : (v : ℕ) → x - (x / w % c) * w + v * w ≡ (x / w / c * c + v) * w + x % w
  digit_put v = rw add-mul (omega (arith, digit_in))

-- what is in a number at a bit's weight
pub and_weight : (b j : ℕ) → bit_and b (2 ^ j) ≡ (b / 2 ^ j % 2) * 2 ^ j
and_weight b j = ap (bit_and b) (sym (high_ones 1 j ∙ one-mul (2 ^ j))) ∙ and_high b 1 j

pub bit_and_lem : (b j : ℕ) → not (eqb (bit_and b (2 ^ j)) 0) ≡ bit b j
bit_and_lem b j = rw (and_weight, ← bit_weight) (go (eqb (b / 2 ^ j % 2) 1) refl)
  where
    go : (t : Bool) → eqb (b / 2 ^ j % 2) 1 ≡ t → not (eqb ((b / 2 ^ j % 2) * 2 ^ j) 0) ≡ t
    go true e = rw (eqb-true (b / 2 ^ j % 2) 1 e) (ap not (ne_eqb (1 * 2 ^ j) 0 (λ z. omega (arith, pow_pos j))))
    go false e = let z : b / 2 ^ j % 2 ≡ 0 = omega (arith, eqb-false (b / 2 ^ j % 2) 1 e) in rw (z, zero-mul) refl

pub put_and : (b j : ℕ) (v : Bool) → b - bit_and b (2 ^ j) + num v * 2 ^ j ≡ put b j v
put_and b j v = rw and_weight (digit_put b (2 ^ j) 2 (num v) ∙ put_weight b j v)
