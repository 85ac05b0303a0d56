-- "count and root as 32-bit numbers, then a table of contents with three rows of kind (1, 2, 3),
-- offset and length, each 32 bits"
-- Letters: n count, I image (its bytes)
use Rattle.std.specs.Prelude.{Bool, true, cond, ◌&&◌, List, ℕ, ◌+◌, ◌-◌, ◌*◌, ◌%◌, ◌^◌, ◌≤◌, length, get_or, eqb, ltb, leb}
use Rattle.bitvec.specs.Calls.{bytes_for}
use Rattle.little.specs.Numbers.{number}

-- "Bodies follow each other in that order from byte 44 without gaps, so five entries take 225
-- bytes.": where the links and the colours begin, and the image's length
abbrev pub links_at_lem : (count : ℕ) → ℕ
links_at_lem n = 44 + n * 24

abbrev pub colours_at_lem : (count : ℕ) → ℕ
colours_at_lem n = 44 + n * 36

abbrev pub image_length_lem : (count : ℕ) → ℕ
image_length_lem n = colours_at_lem n + bytes_for n

-- the image I has the bodies of n slots, and n is at most 65,535
abbrev pub Bodies : (image : List ℕ) (count : ℕ) → Type 0
Bodies I n = (n ≤ 65535) × (colours_at_lem n * 8 + n ≤ length I * 8)

abbrev pub count_in_lem : (image : List ℕ) → ℕ
count_in_lem I = number 4 I 0

abbrev pub root_in_lem : (image : List ℕ) → ℕ
root_in_lem I = number 4 I 4

-- a row of the table, from byte `at` on. The numbers are compared whole: an offset that does not
-- fit 32 bits is in no row.
abbrev pub row : (image : List ℕ) (at kind offset size : ℕ) → Bool
row I at kind offset size = eqb (number 4 I at) kind && eqb (number 4 I (at + 4)) offset && eqb (number 4 I (at + 8)) size

abbrev pub table : (image : List ℕ) (count : ℕ) → Bool
table I n = row I 8 1 44 (n * 24) && row I 20 2 (links_at_lem n) (n * 12) && row I 32 3 (colours_at_lem n) (bytes_for n)

-- "spare bits 0": those of the last colour byte that belong to no slot
abbrev pub spare_clear : (image : List ℕ) (count : ℕ) → Bool
spare_clear I n = cond (eqb (n % 8) 0) true (ltb (get_or I (length I - 1) 0) (2 ^ (n % 8)))

-- 12: "BadImage for any other layout or length"
unfoldable pub laid_out_lem : (image : List ℕ) → Bool
laid_out_lem I = leb 44 (length I) && table I (count_in_lem I) && eqb (length I) (image_length_lem (count_in_lem I)) && spare_clear I (count_in_lem I)
