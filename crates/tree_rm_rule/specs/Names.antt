-- "up to three pairs (old slot, new slot), by rising old slot, of entries whose slot differs after
-- all exchanges; unused pairs are (U, U)"
-- Letters: n count, l old slots or pairs, m new slots, a old slot, b new slot, p pair, P pairs
use Rattle.std.specs.Prelude.{◌≡◌, cond, List, [], ◌∷◌, ℕ, ◌+◌, ◌<◌, ◌≤◌, eqb}
use Rattle.words.specs.Ix.{U}
use Rattle.tree.specs.Tree.{hit}
use Rattle.tree_rm_rule.specs.Pairs.{none}
use Rattle.words.specs.declared.pair.Pair.{Pair}
use Rattle.words.specs.declared.pair.Pairs.{Pairs}

-- the old and the new slot of each entry whose slot differs; the two lists hold the slots of the
-- same entries, in tree order
abbrev pub changed : (old new : List ℕ) → List Pair
changed [] m = []
changed (a ∷ l) [] = []
changed (a ∷ l) (b ∷ m) = cond (eqb a b) (changed l m) (record { old = a; new = b } ∷ changed l m)

-- 1 where a pair is that of a and b, and else 0
unfoldable pub same : (old new : ℕ) (pair : Pair) → ℕ
same a b p = cond (eqb a p.old) (hit b p.new) 0

-- how often the pair of a and b stands in a list
abbrev pub tally : (old new : ℕ) (pairs : List Pair) → ℕ
tally a b [] = 0
tally a b (p ∷ l) = same a b p + tally a b l

-- a pair that names no slot below the count is (U, U)
abbrev pub Rest : (count : ℕ) (pair : Pair) → Type 0
Rest n p = n ≤ p.old → p ≡ none

-- three pairs are exactly those of the list, by rising old slot, and then (U, U)
pub record Names (n : ℕ) (P : Pairs) (l : List Pair) : Type 0 where
  pub exact : (a b : ℕ) → a < n → tally a b (P.first ∷ P.second ∷ P.third ∷ []) ≡ tally a b l
  pub rise_first : P.second.old < U → P.first.old < P.second.old
  pub rise_second : P.third.old < U → P.second.old < P.third.old
  pub rest_first : Rest n P.first
  pub rest_second : Rest n P.second
  pub rest_third : Rest n P.third
