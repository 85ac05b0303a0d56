-- The calls of the bit vector in the words of document 01: what each answers and leaves, and when
-- it is refused.
use mathlib.Core.Path.{◌≡◌, refl, ap, ◌∙◌}
use mathlib.Core.Bool.{Bool, true, false, cond, ◌&&◌}
use mathlib.Core.List.{List}
use Prim.Native.Nat.{ℕ, suc, ◌+◌, ◌-◌, ◌*◌, ◌/◌, ◌%◌, ◌^◌, ◌<◌}
use native.Mathlib.Omega.{arith}
use lib.ListN.{length, get_or}
use lib.Dec.{eqb, ltb, leb}
use borrow.Author.Tests.{le-leb, lt-leb, lt-ltb, leb-true, ltb-true, eqb-true}
use Rattle.bitvec.specs.Bits.{bit_at, set_bit, fill}
use Rattle.bitvec.specs.Calls.{done, bad_bit, allowed, roomy, get_rule, set_rule, set_bytes, push_rule, push_bytes, pop_rule, swap_remove_rule, gap_closed, swap_remove_bytes, bytes_for, from_elem_rule, from_elem_bytes}
use Rattle.bitvec.specs.Written.{Writes, Fills, refused_by}
use Rattle.bitvec.proofs.Numbers.{bit_weight}
use Rattle.bitvec.proofs.Bytes.{length_set_bit, bit_at_same, bit_at_other, length_fill, bit_at_fill, bit_at_fill_rest}
use Rattle.words.specs.Nodes.{HasBit, HoldsBits}

writes : (s : List ℕ) (i : ℕ) (v : Bool) → i / 8 < length s → Writes s i v (set_bit s i v)
writes s i v h = record { as_many = length_set_bit s i v; there = bit_at_same s i v h; elsewhere = λ k d. bit_at_other s i v k d }

-- what two tests say together
both_false : (p q : Bool) → (p ≡ true → q ≡ true → ⊥) → (p && q) ≡ false
both_false true true h = absurd (h refl refl)
both_false true false h = refl
both_false false q h = refl

-- the length is not above bytes × 8
module _ (s : List ℕ) (len : ℕ) (holds : HoldsBits s len) where
  allowed_is : (i : ℕ) → i < len → allowed (length s) len i ≡ true
  unfolding allowed
  allowed_is i h = rw (le-leb len (length s * 8) holds, lt-ltb i len h)

  -- "bit i is bit i mod 8 of byte i div 8"
  pub get_says : (i : ℕ) → i < len → get_rule s len i ≡ done (eqb (get_or s (i / 8) 0 / 2 ^ (i % 8) % 2) 1) len
  unfolding get_rule bit_at
  get_says i h = rw (allowed_is i h, bit_weight)

  -- "`set` and `push` write that one bit and `pop` none"; the bytes are lent to `pop` and `get` by
  -- `&`
  pub set_says : (i : ℕ) (v : Bool) → i < len → (set_rule s len i ≡ done false len) × Writes s i v (set_bytes s len i v)
  unfolding set_rule set_bytes
  set_says i v h = (rw (allowed_is i h), rw (allowed_is i h) (writes s i v (omega arith)))

  -- the last of i + 1 bits is bit i
  pub pop_says : (i : ℕ) → len ≡ suc i → pop_rule s len ≡ done (bit_at s i) i
  unfolding pop_rule
  pop_says i e =
      let q : len - 1 ≡ i = omega arith in
      ap (λ (b : Bool). cond b (done (bit_at s (len - 1)) (len - 1)) (bad_bit len)) (allowed_is 0 (omega arith)) ∙ rw q

  -- bit i is answered, and the last bit takes its place
  pub swap_remove_says : (i last : ℕ) → i < len → len ≡ suc last
      → (swap_remove_rule s len i ≡ done (bit_at s i) last) × Writes s i (bit_at s last) (swap_remove_bytes s len i)
  unfolding swap_remove_rule swap_remove_bytes gap_closed
  swap_remove_says i last h e =
      let q : len - 1 ≡ last = omega arith in
      (rw (allowed_is i h, q), rw (allowed_is i h, q) (go (eqb (i + 1) len) refl))
    where
      go : (b : Bool) → eqb (i + 1) len ≡ b → Writes s i (bit_at s last) (cond b s (set_bit s i (bit_at s last)))
      go true t = let z : i ≡ last = omega (arith, eqb-true (i + 1) len t) in record { as_many = refl; there = rw z; elsewhere = λ k d. refl }
      go false t = writes s i (bit_at s last) (omega arith)

  -- "`from_elem` fills each byte it needs and no other"
  pub from_elem_says : (v : Bool) → (from_elem_rule s len ≡ done false len) × Fills s len v (from_elem_bytes s len v)
  unfolding from_elem_rule from_elem_bytes bytes_for
  from_elem_says v = (rw (le-leb len (length s * 8) holds), rw (le-leb len (length s * 8) holds) fills)
    where
      fills : Fills s len v (fill (bytes_for len) (cond v 255 0) s)
      fills = record {
        as_many = length_fill (bytes_for len) (cond v 255 0) s;
        needed = λ k h. bit_at_fill (bytes_for len) k v s (omega arith) (omega arith);
        other = λ k h. bit_at_fill_rest (bytes_for len) (cond v 255 0) k s (omega arith);
      }

-- the new bit is the one after the others
pub push_says : (s : List ℕ) (len : ℕ) (v : Bool) → HasBit s len → len < 18446744073709551615
    → (push_rule s len ≡ done false (len + 1)) × Writes s len v (push_bytes s len v)
unfolding push_rule push_bytes roomy
push_says s len v h l =
    (rw (lt-ltb len (length s * 8) h, lt-ltb len 18446744073709551615 l), rw (lt-ltb len (length s * 8) h, lt-ltb len 18446744073709551615 l) (writes s len v (omega arith)))

-- refusal 10: "length .. above bytes × 8; bit at or past the length; pop .. of nothing"
module _ (s : List ℕ) (len i : ℕ) (outside : HoldsBits s len → i < len → ⊥) where
  allowed_not : allowed (length s) len i ≡ false
  unfolding allowed
  allowed_not = both_false (leb len (length s * 8)) (ltb i len) (λ p q. outside (leb-true len (length s * 8) p) (ltb-true i len q))

  pub get_refused : get_rule s len i ≡ refused_by 10 len
  unfolding get_rule
  get_refused = rw allowed_not

  pub set_refused : (v : Bool) → (set_rule s len i ≡ refused_by 10 len) × (set_bytes s len i v ≡ s)
  unfolding set_rule set_bytes
  set_refused v = (rw allowed_not, rw allowed_not)

  pub swap_remove_refused : (swap_remove_rule s len i ≡ refused_by 10 len) × (swap_remove_bytes s len i ≡ s)
  unfolding swap_remove_rule swap_remove_bytes
  swap_remove_refused = (rw allowed_not, rw allowed_not)

pub pop_refused : (s : List ℕ) (len : ℕ) → (HoldsBits s len → 0 < len → ⊥) → pop_rule s len ≡ refused_by 10 len
unfolding pop_rule
pop_refused s len outside = rw (allowed_not s len 0 outside)

-- "push with no byte left"; and the length is a 64-bit number
pub push_refused : (s : List ℕ) (len : ℕ) (v : Bool) → (HasBit s len → len < 18446744073709551615 → ⊥)
    → (push_rule s len ≡ refused_by 10 len) × (push_bytes s len v ≡ s)
unfolding push_rule push_bytes roomy
push_refused s len v full =
    let e : (ltb len (length s * 8) && ltb len 18446744073709551615) ≡ false =
    both_false (ltb len (length s * 8)) (ltb len 18446744073709551615) (λ p q. full (ltb-true len (length s * 8) p) (ltb-true len 18446744073709551615 q)) in
    (rw e, rw e)

-- "`from_elem` length above bytes × 8": it has no vector to give back, and so the length 0
pub from_elem_refused : (s : List ℕ) (len : ℕ) (v : Bool) → length s * 8 < len → (from_elem_rule s len ≡ refused_by 10 0) × (from_elem_bytes s len v ≡ s)
unfolding from_elem_rule from_elem_bytes
from_elem_refused s len v h = (rw (lt-leb len (length s * 8) h), rw (lt-leb len (length s * 8) h))
