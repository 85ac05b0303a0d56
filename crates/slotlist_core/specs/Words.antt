-- What a line says, by its words: "Numbers are decimal 64-bit, digits only, leading zeros read ..,
-- one space between".
-- Letters: b byte or word, s bytes, v value so far, x byte, y byte, t other bytes, a word, c word,
--   d word, k word, l more words
use Rattle.std.specs.Prelude.{Bool, true, false, cond, ◌&&◌, List, [], ◌∷◌, ℕ, ◌+◌, ◌-◌, ◌*◌, eqb, ltb, leb}
use Rattle.slotlist_core.specs.declared.reading.Said.{Said}
use Rattle.slotlist_core.specs.declared.reading.Said.TheVariants.{Entry, Remove, Other}

-- the first word of a line, up to a space; the words after it; all of them
abbrev pub first : (bytes : List ℕ) → List ℕ
first [] = []
first (b ∷ s) = cond (eqb b 32) [] (b ∷ first s)

abbrev pub others : (bytes : List ℕ) → List (List ℕ)
others [] = []
others (b ∷ s) = cond (eqb b 32) (first s ∷ others s) (others s)

abbrev pub words : (bytes : List ℕ) → List (List ℕ)
words s = first s ∷ others s

-- "digits only": the bytes 48 to 57
abbrev pub is_digit : (byte : ℕ) → Bool
is_digit b = leb 48 b && leb b 57

abbrev pub digits : (bytes : List ℕ) → Bool
digits [] = true
digits (b ∷ s) = is_digit b && digits s

-- the number v with a word's digits after it; so `value 0` is a word's number
abbrev pub value : (value : ℕ) (bytes : List ℕ) → ℕ
value v [] = v
value v (b ∷ s) = value (v * 10 + (b - 48)) s

-- "decimal 64-bit", of one digit at least
abbrev pub is_number : (bytes : List ℕ) → Bool
is_number [] = false
is_number (b ∷ s) = digits (b ∷ s) && ltb (value 0 (b ∷ s)) 18446744073709551616

abbrev pub same : (bytes other : List ℕ) → Bool
same [] [] = true
same [] (y ∷ t) = false
same (x ∷ s) [] = false
same (x ∷ s) (y ∷ t) = eqb x y && same s t

abbrev pub remove : List ℕ
remove = 114 ∷ 101 ∷ 109 ∷ 111 ∷ 118 ∷ 101 ∷ []  -- "remove"

-- "lines `start end value` .. lines `remove k` .. any other line"
unfoldable pub said : (words : List (List ℕ)) → Said
said [] = Other
said (a ∷ []) = Other
said (a ∷ k ∷ []) = cond (same a remove && is_number k) (Remove (value 0 k)) Other
said (a ∷ b ∷ c ∷ []) = cond (is_number a && is_number b && is_number c) (Entry (value 0 a) (value 0 b) (value 0 c)) Other
said (a ∷ b ∷ c ∷ d ∷ l) = Other
