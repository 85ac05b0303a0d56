-- Bits of a number, and of a list of bytes: "bit i is bit i mod 8 of byte i div 8".
-- Letters: b number (a byte is one), j place of a bit in it, i place of a bit in bytes, s bytes,
--   v bit to write, x byte to write, n count of bytes
use Rattle.std.specs.Prelude.{Bool, cond, List, [], ◌∷◌, ℕ, zero, suc, ◌+◌, ◌*◌, ◌/◌, ◌%◌, get_or, set, eqb}

-- bit j of a number, and the number with v in bit j
unfoldable pub bit : (number place : ℕ) → Bool
bit b zero = eqb (b % 2) 1
bit b (suc j) = bit (b / 2) j

unfoldable pub put : (number place : ℕ) (bit : Bool) → ℕ
put b zero v = b / 2 * 2 + cond v 1 0
put b (suc j) v = put (b / 2) j v * 2 + b % 2

-- bit i of a list of bytes, and the bytes with v in bit i
unfoldable pub bit_at : (bytes : List ℕ) (place : ℕ) → Bool
bit_at s i = bit (get_or s (i / 8) 0) (i % 8)

unfoldable pub set_bit : (bytes : List ℕ) (place : ℕ) (bit : Bool) → List ℕ
set_bit s i v = set s (i / 8) (put (get_or s (i / 8) 0) (i % 8) v)

-- the bytes with x in each of the first n
unfoldable pub fill : (count byte : ℕ) (bytes : List ℕ) → List ℕ
fill zero x s = s
fill (suc n) x [] = []
fill (suc n) x (b ∷ s) = x ∷ fill n x s
