-- Numbers in bytes, the least byte first ("little-endian").
-- Letters: w width (count of bytes), s bytes, i place of a byte, v number
use Rattle.std.specs.Prelude.{List, [], ◌∷◌, ℕ, zero, suc, ◌+◌, ◌*◌, ◌/◌, ◌%◌, ◌<◌, get_or}

-- the number of w bytes, from byte i on
unfoldable pub number : (width : ℕ) (bytes : List ℕ) (place : ℕ) → ℕ
number zero s i = 0
number (suc w) s i = get_or s i 0 + 256 * number w s (suc i)

-- the number v as w bytes; what is above 256 ^ w is cut off
unfoldable pub digits : (width number : ℕ) → List ℕ
digits zero v = []
digits (suc w) v = v % 256 ∷ digits w (v / 256)

-- each number of a list is a byte, as in every lent slice of bytes
abbrev pub Bytes : (bytes : List ℕ) → Type 0
Bytes s = (i : ℕ) → get_or s i 0 < 256
