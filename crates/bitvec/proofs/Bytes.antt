-- Bits of a list of bytes, over every list, every length and every place.
use mathlib.Core.Path.{◌≡◌, refl, ap}
use mathlib.Core.Logic.{◌≢◌}
use mathlib.Core.Bool.{Bool, true, false, cond}
use mathlib.Core.List.{List, [], ◌∷◌}
use Prim.Native.Nat.{ℕ, zero, suc, ◌/◌, ◌%◌, ◌<◌, ◌≤◌}
use native.Mathlib.Omega.{arith}
use lib.ListN.{length, get_or, set, length-set}
use lib.Seq.{get_or-set_same, get_or-set_other, set_out, set-get_or}
use lib.Dec.{eqb, ltb}
use borrow.Author.Tests.{eqb-true, eqb-false, ltb-true, ltb-false}
use Rattle.bitvec.specs.Bits.{bit, put, bit_at, set_bit, fill}
use Rattle.bitvec.proofs.Numbers.{bit_put_same, bit_put_other, put_idle}

module _ (s : List ℕ) (i : ℕ) (v : Bool) where
  pub length_set_bit : length (set_bit s i v) ≡ length s
  unfolding set_bit
  length_set_bit = length-set s (i / 8) _

  pub bit_at_same : i / 8 < length s → bit_at (set_bit s i v) i ≡ v
  unfolding bit_at set_bit
  bit_at_same h = rw (get_or-set_same s (i / 8) (put (get_or s (i / 8) 0) (i % 8) v) 0 h) (bit_put_same (get_or s (i / 8) 0) (i % 8) v)

  pub bit_at_other : (k : ℕ) → k ≢ i → bit_at (set_bit s i v) k ≡ bit_at s k
  unfolding bit_at set_bit
  bit_at_other k d = go (eqb (k / 8) (i / 8)) refl
    where
      here : (t : Bool) → ltb (i / 8) (length s) ≡ t → k % 8 ≢ i % 8 → bit (get_or (set s (i / 8) (put (get_or s (i / 8) 0) (i % 8) v)) (i / 8) 0) (k % 8) ≡ bit (get_or s (i / 8) 0) (k % 8)
      here true f m = rw (get_or-set_same s (i / 8) (put (get_or s (i / 8) 0) (i % 8) v) 0 (ltb-true (i / 8) (length s) f)) (bit_put_other (get_or s (i / 8) 0) (i % 8) (k % 8) v m)
      here false f m = rw (set_out s (i / 8) (put (get_or s (i / 8) 0) (i % 8) v) (ltb-false (i / 8) (length s) f))

      go : (t : Bool) → eqb (k / 8) (i / 8) ≡ t → bit (get_or (set s (i / 8) (put (get_or s (i / 8) 0) (i % 8) v)) (k / 8) 0) (k % 8) ≡ bit (get_or s (k / 8) 0) (k % 8)
      go true e = let q : k / 8 ≡ i / 8 = eqb-true (k / 8) (i / 8) e in rw q (here (ltb (i / 8) (length s)) refl (omega arith))
      go false e = rw (get_or-set_other s (i / 8) (k / 8) (put (get_or s (i / 8) 0) (i % 8) v) 0 (eqb-false (k / 8) (i / 8) e))

  -- a bit that is v already
  pub set_bit_idle : bit_at s i ≡ v → set_bit s i v ≡ s
  unfolding bit_at set_bit
  set_bit_idle e = rw (put_idle (get_or s (i / 8) 0) (i % 8) v e) (set-get_or s (i / 8) 0)

-- the bytes that are filled, and those that are not
pub length_fill : (n x : ℕ) (s : List ℕ) → length (fill n x s) ≡ length s
unfolding fill
length_fill zero x s = refl
length_fill (suc n) x [] = refl
length_fill (suc n) x (b ∷ s) = ap suc (length_fill n x s)

get_d_fill : (n x k : ℕ) (s : List ℕ) → k < n → k < length s → get_or (fill n x s) k 0 ≡ x
unfolding fill
get_d_fill zero x k s h l = absurd (omega arith)
get_d_fill (suc n) x k [] h l = absurd (omega arith)
get_d_fill (suc n) x zero (b ∷ s) h l = refl
get_d_fill (suc n) x (suc k) (b ∷ s) h l = get_d_fill n x k s (omega arith) (omega arith)

get_d_fill_rest : (n x k : ℕ) (s : List ℕ) → n ≤ k → get_or (fill n x s) k 0 ≡ get_or s k 0
unfolding fill
get_d_fill_rest zero x k s h = refl
get_d_fill_rest (suc n) x k [] h = refl
get_d_fill_rest (suc n) x zero (b ∷ s) h = absurd (omega arith)
get_d_fill_rest (suc n) x (suc k) (b ∷ s) h = get_d_fill_rest n x k s (omega arith)

bit_zero : (j : ℕ) → bit 0 j ≡ false
unfolding bit
bit_zero zero = refl
bit_zero (suc j) = bit_zero j

-- a byte whose bits are all v
bit_whole : (v : Bool) (j : ℕ) → j < 8 → bit (cond v 255 0) j ≡ v
unfolding bit
bit_whole true zero h = refl
bit_whole true (suc zero) h = refl
bit_whole true (suc (suc zero)) h = refl
bit_whole true (suc (suc (suc zero))) h = refl
bit_whole true (suc (suc (suc (suc zero)))) h = refl
bit_whole true (suc (suc (suc (suc (suc zero))))) h = refl
bit_whole true (suc (suc (suc (suc (suc (suc zero)))))) h = refl
bit_whole true (suc (suc (suc (suc (suc (suc (suc zero))))))) h = refl
bit_whole true (suc (suc (suc (suc (suc (suc (suc (suc j)))))))) h = absurd (omega arith)
bit_whole false j h = bit_zero j

-- after `from_elem` each bit of the bytes that it needs is v, and every other bit is as it was
pub bit_at_fill : (n i : ℕ) (v : Bool) (s : List ℕ) → i / 8 < n → n ≤ length s → bit_at (fill n (cond v 255 0) s) i ≡ v
unfolding bit_at
bit_at_fill n i v s h l = rw (get_d_fill n (cond v 255 0) (i / 8) s h (omega arith)) (bit_whole v (i % 8) (omega arith))

pub bit_at_fill_rest : (n x i : ℕ) (s : List ℕ) → n ≤ i / 8 → bit_at (fill n x s) i ≡ bit_at s i
unfolding bit_at
bit_at_fill_rest n x i s h = rw (get_d_fill_rest n x (i / 8) s h)
