-- "It prints `count N root R` (`-` for U), then one line a slot: slot, start, end, value."
-- Numbers are in decimal, "leading zeros read but not printed": `number` of the crate lines.
-- Letters: W words, n count, r root, s slot
use Rattle.std.specs.Prelude.{cond, List, [], ◌∷◌, ◌++◌, ℕ, zero, suc, eqb}
use Rattle.words.specs.Ix.{U}
use Rattle.words.specs.Nodes.{start, stop, value}
use Rattle.lines.specs.Output.{number, next}

unfoldable pub root_text : (root : ℕ) → List ℕ
root_text r = cond (eqb r U) (45 ∷ []) (number r)  -- "-"

-- `count N root R`
abbrev pub count_word : List ℕ
count_word = 99 ∷ 111 ∷ 117 ∷ 110 ∷ 116 ∷ 32 ∷ []  -- "count "

abbrev pub root_word : List ℕ
root_word = 32 ∷ 114 ∷ 111 ∷ 111 ∷ 116 ∷ 32 ∷ []  -- " root "

unfoldable pub head : (count root : ℕ) → List ℕ
head n r = count_word ++ (number n ++ (root_word ++ (root_text r ++ (10 ∷ []))))  -- "\n"

-- the line of slot s
unfoldable pub row : (words : List ℕ) (slot : ℕ) → List ℕ
row W s = number s ++ (next (start W s) ++ (next (stop W s) ++ (next (value W s) ++ (10 ∷ []))))  -- "\n"

-- the lines of n slots from s on
unfoldable pub rows : (words : List ℕ) (slot count : ℕ) → List ℕ
rows W s zero = []
rows W s (suc n) = row W s ++ rows W (suc s) n

unfoldable pub map_text : (count root : ℕ) (words : List ℕ) → List ℕ
map_text n r W = head n r ++ rows W 0 n

-- `refused N`
abbrev pub refused_word : List ℕ
refused_word = 114 ∷ 101 ∷ 102 ∷ 117 ∷ 115 ∷ 101 ∷ 100 ∷ 32 ∷ []  -- "refused "

unfoldable pub refusal_text : (why : ℕ) → List ℕ
refusal_text why = refused_word ++ (number why ++ (10 ∷ []))  -- "\n"
