-- What the bit calls answer and leave.
-- Letters: s bytes, n size in bytes, i place of a bit, v vector of bits or bit to write, b bit that
--   was read, y refusal
use Rattle.std.specs.Prelude.{Bool, false, Result, Ok, Err, cond, ◌&&◌, List, ℕ, ◌+◌, ◌-◌, ◌/◌, length, eqb, ltb, leb}
use Rattle.words.specs.Refusals.{refusal_number}
use Rattle.bitvec.specs.Bits.{bit_at, set_bit, fill}
use Rattle.words.specs.declared.refusal.Refusal.{Refusal}
use Rattle.bitvec.specs.declared.BitVec.{BitVec}
use Rattle.words.specs.Nodes.{bits_of}

-- an answer by its numbers: the refusal's, 0 for none; the bit that was read; the length
pub record Bits : Type 0 where
  pub no : ℕ
  pub bit : Bool
  pub len : ℕ

-- a refusal has no bit, and the length as it was given
abbrev pub numbers : (given : ℕ) (answer : Result (Bool × BitVec) Refusal) → Bits
numbers given (Ok (b, v)) = record { no = 0; bit = b; len = v.len }
numbers given (Err y) = record { no = refusal_number y; bit = false; len = given }

abbrev pub done : (bit : Bool) (len : ℕ) → Bits
done b len = record { no = 0; bit = b; len = len }

abbrev pub bad_bit : (given : ℕ) → Bits
bad_bit given = record { no = 10; bit = false; len = given }

-- refusal 10: "length above bytes × 8; bit at or past the length"
unfoldable pub allowed : (size len place : ℕ) → Bool
allowed n len i = leb len (bits_of n) && ltb i len

unfoldable pub get_rule : (bytes : List ℕ) (len place : ℕ) → Bits
get_rule s len i = cond (allowed (length s) len i) (done (bit_at s i) len) (bad_bit len)

unfoldable pub set_rule : (bytes : List ℕ) (len place : ℕ) → Bits
set_rule s len i = cond (allowed (length s) len i) (done false len) (bad_bit len)

unfoldable pub set_bytes : (bytes : List ℕ) (len place : ℕ) (bit : Bool) → List ℕ
set_bytes s len i v = cond (allowed (length s) len i) (set_bit s i v) s

-- "push with no byte left"; and the length is a 64-bit number, so one of 2^64 - 1 has no next
unfoldable pub roomy : (size len : ℕ) → Bool
roomy n len = ltb len (bits_of n) && ltb len 18446744073709551615

unfoldable pub push_rule : (bytes : List ℕ) (len : ℕ) → Bits
push_rule s len = cond (roomy (length s) len) (done false (len + 1)) (bad_bit len)

unfoldable pub push_bytes : (bytes : List ℕ) (len : ℕ) (bit : Bool) → List ℕ
push_bytes s len v = cond (roomy (length s) len) (set_bit s len v) s

-- "pop .. of nothing": there is no bit 0
unfoldable pub pop_rule : (bytes : List ℕ) (len : ℕ) → Bits
pop_rule s len = cond (allowed (length s) len 0) (done (bit_at s (len - 1)) (len - 1)) (bad_bit len)

unfoldable pub swap_remove_rule : (bytes : List ℕ) (len place : ℕ) → Bits
swap_remove_rule s len i = cond (allowed (length s) len i) (done (bit_at s i) (len - 1)) (bad_bit len)

-- the last bit takes the place of bit i
unfoldable pub gap_closed : (bytes : List ℕ) (len place : ℕ) → List ℕ
gap_closed s len i = cond (eqb (i + 1) len) s (set_bit s i (bit_at s (len - 1)))

unfoldable pub swap_remove_bytes : (bytes : List ℕ) (len place : ℕ) → List ℕ
swap_remove_bytes s len i = cond (allowed (length s) len i) (gap_closed s len i) s

-- "`from_elem` fills each byte it needs and no other"
unfoldable pub bytes_for : (len : ℕ) → ℕ
bytes_for len = (len + 7) / 8

unfoldable pub from_elem_rule : (bytes : List ℕ) (len : ℕ) → Bits
from_elem_rule s len = cond (leb len (bits_of (length s))) (done false len) (bad_bit 0)

unfoldable pub from_elem_bytes : (bytes : List ℕ) (len : ℕ) (bit : Bool) → List ℕ
from_elem_bytes s len v = cond (leb len (bits_of (length s))) (fill (bytes_for len) (cond v 255 0) s) s
