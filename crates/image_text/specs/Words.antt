-- A word of a text, byte by byte: a decimal number of 64 bits, or a name.
-- Letters: w word, d digit, b byte, v value, x longer value or other name, o name, s bytes
use Rattle.std.specs.Prelude.{Bool, true, false, cond, Option, None, Some, ℕ, ◌+◌, ◌*◌, eqb, ltb}
use mathlib.Core.List.{List, [], ◌∷◌, foldl}
use Rattle.words.specs.Ix.{U}
use Rattle.lines.specs.Input.{digit_of_lem, appended, on_some}
use Rattle.image_text.specs.declared.word.Word.{Word}
use Rattle.image_text.specs.declared.word.Word.TheVariants.{Empty, Number, Name, Wrong}

-- one more digit
abbrev pub word_digit : (word : Word) (digit : ℕ) → Word
word_digit Empty d = Number d
word_digit (Number v) d = on_some (appended v d) (λ x. Number x) Wrong
word_digit (Name o) d = Wrong
word_digit Wrong d = Wrong

-- one more letter, of seven at most
unfoldable pub longer_name_lem : (name byte : ℕ) → Word
longer_name_lem o b = cond (ltb o 72057594037927936) (Name (o * 256 + b)) Wrong

abbrev pub word_letter : (word : Word) (byte : ℕ) → Word
word_letter Empty b = Name (256 + b)
word_letter (Number v) b = Wrong
word_letter (Name o) b = longer_name_lem o b
word_letter Wrong b = Wrong

unfoldable pub word_byte : (word : Word) (byte : ℕ) → Word
word_byte w b = on_some (digit_of_lem b) (λ d. word_digit w d) (word_letter w b)

-- a name as one number: its letters are digits of base 256, after a 1
abbrev pub name_of : (bytes : List ℕ) → ℕ
name_of s = foldl (λ v b. v * 256 + b) 1 s

abbrev pub count_name : ℕ
count_name = name_of (99 ∷ 111 ∷ 117 ∷ 110 ∷ 116 ∷ [])  -- "count"

abbrev pub root_name : ℕ
root_name = name_of (114 ∷ 111 ∷ 111 ∷ 116 ∷ [])  -- "root"

abbrev pub red_name : ℕ
red_name = name_of (114 ∷ 101 ∷ 100 ∷ [])  -- "red"

abbrev pub black_name : ℕ
black_name = name_of (98 ∷ 108 ∷ 97 ∷ 99 ∷ 107 ∷ [])  -- "black"

abbrev pub dash_name : ℕ
dash_name = name_of (45 ∷ [])  -- "-"

-- what a complete word is
abbrev pub is_new_lem : (word : Word) → Bool
is_new_lem Empty = true
is_new_lem (Number v) = false
is_new_lem (Name o) = false
is_new_lem Wrong = false

abbrev pub is_name_lem : (word : Word) (name : ℕ) → Bool
is_name_lem Empty o = false
is_name_lem (Number v) o = false
is_name_lem (Name x) o = eqb x o
is_name_lem Wrong o = false

abbrev pub number_in : (word : Word) → Option ℕ
number_in Empty = None
number_in (Number v) = Some v
number_in (Name o) = None
number_in Wrong = None

-- a number below U
abbrev pub below_U : (number : Option ℕ) → Option ℕ
below_U None = None
below_U (Some v) = cond (ltb v U) (Some v) None

unfoldable pub small_in : (word : Word) → Option ℕ
small_in w = below_U (number_in w)

-- a link: U for `-`
unfoldable pub link_said : (word : Word) → Option ℕ
link_said w = cond (is_name_lem w dash_name) (Some U) (small_in w)
