-- "Slots from count up are not read": two stores that agree below the count n.
-- Letters: W words, C colours, n count, X other words, D other colours, f field, a slot
use Rattle.std.specs.Prelude.{◌≡◌, List, ℕ, ◌<◌, length}
use Rattle.words.specs.Nodes.{word}
use Rattle.words.specs.declared.node.Field.{Field}
use Rattle.bitvec.specs.Colours.{red}

-- words as long as one another, with the same words in each slot below n
abbrev pub Agree : (count : ℕ) (words other : List ℕ) → Type 0
Agree n W X = (length W ≡ length X) × ((f : Field) (a : ℕ) → a < n → word W f a ≡ word X f a)

-- colours as long as one another, with the same colour for each slot below n
abbrev pub SameColours : (count : ℕ) (colours other : List ℕ) → Type 0
SameColours n C D = (length C ≡ length D) × ((a : ℕ) → a < n → red C a ≡ red D a)
