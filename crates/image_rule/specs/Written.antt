-- The bytes of a map of n entries with the root r, in the words W and the colours C.
-- Letters: W words, C colours, n count, r root, w width of a number, v number, l numbers, f piece
--   of a slot, m slots, s slots or slot, i place
use Rattle.std.specs.Prelude.{true, false, cond, List, [], ◌∷◌, ◌++◌, ℕ, zero, suc, ◌*◌, ◌/◌, ◌%◌, ◌^◌, ◌<◌, get_or, take, eqb}
use Rattle.words.specs.Nodes.{start, stop, value, kid, par}
use Rattle.bitvec.specs.Calls.{bytes_for}
use Rattle.little.specs.Numbers.{digits}
use Rattle.image_rule.specs.Layout.{links_at_lem, colours_at_lem}

-- each number of a list has 64 bits, as in every lent slice of words
abbrev pub Words : (words : List ℕ) → Type 0
Words W = (i : ℕ) → get_or W i 0 < 18446744073709551616

-- numbers of w bytes each, one after the other
abbrev pub fields : (width : ℕ) (numbers : List ℕ) → List ℕ
fields w [] = []
fields w (v ∷ l) = digits w v ++ fields w l

-- count and root; then kind, offset and length of each body
abbrev pub heading : (count root : ℕ) → List ℕ
heading n r =
    n ∷ r ∷ 1 ∷ 44 ∷ (n * 24) ∷ 2 ∷ links_at_lem n ∷ (n * 12) ∷ 3 ∷ colours_at_lem n ∷ bytes_for n ∷ []

unfoldable pub header : (count root : ℕ) → List ℕ
header n r = fields 4 (heading n r)

-- the pieces of the first m slots, one after the other
unfoldable pub pieces : (piece : ℕ → List ℕ) (slots : ℕ) → List ℕ
pieces f zero = []
pieces f (suc s) = pieces f s ++ f s

abbrev pub entry_bytes : (words : List ℕ) (slot : ℕ) → List ℕ
entry_bytes W s = fields 8 (start W s ∷ stop W s ∷ value W s ∷ [])

abbrev pub link_bytes : (words : List ℕ) (slot : ℕ) → List ℕ
link_bytes W s = fields 4 (kid W true s ∷ kid W false s ∷ par W s ∷ [])

abbrev pub entries : (words : List ℕ) (slots : ℕ) → List ℕ
entries W m = pieces (entry_bytes W) m

abbrev pub links : (words : List ℕ) (slots : ℕ) → List ℕ
links W m = pieces (link_bytes W) m

-- whole bytes, and the bits that are left with the spare ones 0
unfoldable pub shades : (colours : List ℕ) (count : ℕ) → List ℕ
shades C n = take (n / 8) C ++ cond (eqb (n % 8) 0) [] (get_or C (n / 8) 0 % 2 ^ (n % 8) ∷ [])

unfoldable pub image_of : (count root : ℕ) (words colours : List ℕ) → List ℕ
image_of n r W C = header n r ++ (entries W n ++ (links W n ++ shades C n))
