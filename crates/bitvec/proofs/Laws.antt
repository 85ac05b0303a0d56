-- What the code's tests say of a rule, in the form that `search` takes.
use mathlib.Core.Path.{◌≡◌, refl, sym, ap, ◌∙◌}
use mathlib.Core.Bool.{Bool, true, false, not, ◌&&◌, true≢false}
use mathlib.Core.List.{List, [], ◌∷◌, ◌++◌}
use Prim.Native.Nat.{ℕ, zero, suc, ◌+◌, ◌-◌, ◌*◌, ◌/◌, ◌%◌, ◌^◌, ◌<◌, ◌≤◌}
use native.Mathlib.Omega.{arith}
use lib.ListN.{length, length-take, set, take, drop, replicate}
use lib.Bits.{bit_and}
use lib.Dec.{eqb, ltb, leb}
use borrow.Author.Tests.{ltb-true, ltb-false, leb-true, leb-false, le-leb, lt-leb, lt-ltb, le-ltb, eq-eqb, ne_eqb}
use Rattle.words.proofs.Laws.{linked, unlinked}
use Rattle.words.specs.Ix.{link_of, on_link}
use Rattle.std.specs.Prelude.{Option, Some, None}
use Rattle.bitvec.specs.Bits.{bit, put, bit_at, set_bit, fill}
use Rattle.bitvec.specs.Calls.{done, allowed, roomy, bytes_for, gap_closed}
use Rattle.bitvec.proofs.Numbers.{num, put_small}
use Rattle.bitvec.proofs.Weights.{bit_and_lem, put_and}

-- a byte and the weight of one of its bits
module _ (b j w : ℕ) (e : w ≡ 2 ^ j) where
  pub read : not (eqb (bit_and b w) 0) ≡ bit b j
  read = rw e (bit_and_lem b j)

  written : (v : Bool) → b - bit_and b w + num v * w ≡ put b j v
  written v = rw e (put_and b j v)

  pub written_set : (v : Bool) → v ≡ true → b - bit_and b w + w ≡ put b j v
  written_set v q = rw q (omega (arith, written true))

  pub written_clear : (v : Bool) → v ≡ false → b - bit_and b w ≡ put b j v
  written_clear v q = rw q (omega (arith, written false))

  pub written_fits : b < 256 → j < 8 → b - bit_and b w + w < 256
  written_fits h l = rw (written_set true refl) (put_small b j true 8 h l)

-- the bytes that a length takes
pub bytes_more : (len : ℕ) → 0 < len % 8 → len / 8 + 1 ≡ bytes_for len
unfolding bytes_for
bytes_more len h = omega arith

pub bytes_even : (len : ℕ) → len % 8 ≤ 0 → len / 8 ≡ bytes_for len
unfolding bytes_for
bytes_even len h = omega arith

pub bytes_hold : (n len b : ℕ) → b ≡ bytes_for len → leb b n ≡ leb len (n * 8)
unfolding bytes_for
bytes_hold n len b e = go (leb b n) refl
  where
    go : (t : Bool) → leb b n ≡ t → t ≡ leb len (n * 8)
    go true q = sym (le-leb len (n * 8) (omega (arith, leb-true b n q)))
    go false q = sym (lt-leb len (n * 8) (omega (arith, leb-false b n q)))

-- the first bytes are filled, and the others are kept
all_filled : (n x : ℕ) (s : List ℕ) → n ≤ length s → replicate n x ++ drop n s ≡ fill n x s
unfolding fill
all_filled zero x s h = refl
all_filled (suc n) x [] h = absurd (omega arith)
all_filled (suc n) x (b ∷ s) h = ap (λ (l : List ℕ). x ∷ l) (all_filled n x s (omega arith))

pub filled : (n x : ℕ) (s t : List ℕ) → n ≤ length s → t ≡ replicate (length (take n s)) x → t ++ drop n s ≡ fill n x s
filled n x s t h e = let k : length (take n s) ≡ n = simp length-take (omega arith) in rw (e, k) (all_filled n x s h)

-- what is allowed is there
pub allowed_in : (n len i : ℕ) (b : Bool) → b ≡ allowed n len i → b ≡ true → (len ≤ n * 8) × (i < len)
unfolding allowed
allowed_in n len i b e t = go (leb len (n * 8)) (ltb i len) refl refl (sym e ∙ t)
  where
    go : (p q : Bool) → leb len (n * 8) ≡ p → ltb i len ≡ q → (p && q) ≡ true → (len ≤ n * 8) × (i < len)
    go true true f g z = (leb-true len (n * 8) f, ltb-true i len g)
    go true false f g z = absurd (true≢false (sym z))
    go false q f g z = absurd (true≢false (sym z))

-- a bit after the others
pub byte_left : (n len : ℕ) → ltb (len / 8) n ≡ ltb len (n * 8)
byte_left n len = go (ltb (len / 8) n) refl
  where
    go : (t : Bool) → ltb (len / 8) n ≡ t → t ≡ ltb len (n * 8)
    go true e = sym (lt-ltb len (n * 8) (omega (arith, ltb-true (len / 8) n e)))
    go false e = sym (le-ltb len (n * 8) (omega (arith, ltb-false (len / 8) n e)))

module _ (n len : ℕ) (b : Bool) (e : b ≡ roomy n len) (t : b ≡ true) where
  roomy_in : (len < n * 8) × (len < 18446744073709551615)
  unfolding roomy
  roomy_in = go (ltb len (n * 8)) (ltb len 18446744073709551615) refl refl (sym e ∙ t)
    where
      go : (p q : Bool) → ltb len (n * 8) ≡ p → ltb len 18446744073709551615 ≡ q → (p && q) ≡ true → (len < n * 8) × (len < 18446744073709551615)
      go true true f g z = (ltb-true len (n * 8) f, ltb-true len 18446744073709551615 g)
      go true false f g z = absurd (true≢false (sym z))
      go false q f g z = absurd (true≢false (sym z))

  pub room_byte : len / 8 < n
  room_byte = omega (arith, roomy_in)

  pub room_next : len + 1 < 18446744073709551616
  room_next = omega (arith, roomy_in)

-- the last bit, and bit i
pub last_gap : (s : List ℕ) (len i : ℕ) → i + 1 ≡ len → s ≡ gap_closed s len i
unfolding gap_closed
last_gap s len i e = rw (eq-eqb (i + 1) len e)

pub other_gap : (s t : List ℕ) (len i : ℕ) (v : Bool) → (i + 1 ≡ len → ⊥) → v ≡ bit_at s (len - 1) → t ≡ set_bit s i v → t ≡ gap_closed s len i
unfolding gap_closed
other_gap s t len i v d e q = rw (ne_eqb (i + 1) len d, ← e) q

pub done_is : (b d : Bool) (len : ℕ) → b ≡ d → done b len ≡ done d len
done_is b d len e = rw e

module _ (n len i : ℕ) (b : Bool) (e : b ≡ allowed n len i) (t : b ≡ true) where
  pub inside : i / 8 < n
  inside = omega (arith, allowed_in n len i b e t)

  pub inside_len : len ≤ n * 8
  inside_len = (allowed_in n len i b e t).0

  pub inside_place : i < len
  inside_place = (allowed_in n len i b e t).1

  pub inside_some : 1 ≤ len
  inside_some = omega (arith, allowed_in n len i b e t)

  pub inside_last : (len - 1) / 8 < n
  inside_last = omega (arith, allowed_in n len i b e t)

pub byte_put : (s : List ℕ) (i a b : ℕ) → a ≡ b → set s i a ≡ set s i b
byte_put s i a b e = rw e

-- the bytes that `from_elem` fills
pub bytes_fit : (n len b : ℕ) (t : Bool) → b ≡ bytes_for len → t ≡ leb len (n * 8) → t ≡ true → b ≤ n
unfolding bytes_for
bytes_fit n len b t e q h = omega (arith, leb-true len (n * 8) (sym q ∙ h))

pub fill_is : (s t : List ℕ) (b len x y : ℕ) → t ≡ fill b x s → b ≡ bytes_for len → x ≡ y → t ≡ fill (bytes_for len) y s
fill_is s t b len x y e q f = rw (← q, ← f) e

-- a link to no red slot
pub black_slot : (r b : Bool) (n w k : ℕ) (l : Option ℕ) (f : ℕ → Bool) → l ≡ link_of n w → l ≡ Some k → b ≡ f k → r ≡ not b → r ≡ not (on_link n w f false)
black_slot r b n w k l f e q h p = p ∙ ap not (linked b n w k l f false e q h)

pub no_slot_black : (n w : ℕ) (l : Option ℕ) (f : ℕ → Bool) → l ≡ link_of n w → l ≡ None → true ≡ not (on_link n w f false)
no_slot_black n w l f e q = ap not (unlinked false n w l f false e q refl)
