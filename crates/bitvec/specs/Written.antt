-- What a call did to the bytes: the words of the theorems in proofs/Table.
-- Letters: s bytes before, t bytes afterwards, i place of the bit, v bit that was written, k place
--   of any bit
use Rattle.std.specs.Prelude.{◌≡◌, ◌≢◌, Bool, false, List, ℕ, ◌*◌, ◌/◌, ◌<◌, ◌≤◌, length}
use Rattle.bitvec.specs.Bits.{bit_at}
use Rattle.bitvec.specs.Calls.{Bits}

-- "that one bit": the bytes t are as many as the bytes s, have v in bit i, and every other bit as
-- it was
pub record Writes (s : List ℕ) (i : ℕ) (v : Bool) (t : List ℕ) : Type 0 where
  pub as_many : length t ≡ length s
  pub there : bit_at t i ≡ v
  pub elsewhere : (k : ℕ) → k ≢ i → bit_at t k ≡ bit_at s k

-- "each byte it needs and no other": a byte is needed if its first bit is one of the len bits; each
-- bit of such a byte is v, and every other bit is as it was
pub record Fills (s : List ℕ) (len : ℕ) (v : Bool) (t : List ℕ) : Type 0 where
  pub as_many : length t ≡ length s
  pub needed : (k : ℕ) → k / 8 * 8 < len → bit_at t k ≡ v
  pub other : (k : ℕ) → len ≤ k / 8 * 8 → bit_at t k ≡ bit_at s k

-- "A refusal returns its number, the map or cursor as given": here the length; no bit was read
abbrev pub refused_by : (number len : ℕ) → Bits
refused_by number len = record { no = number; bit = false; len = len }
