-- Lists of slots.
-- Letters: a slot, p test, l slots
use Rattle.std.specs.Prelude.{Bool, cond, List, [], ◌∷◌, ℕ}

-- those of a list that the test p picks, in their order
abbrev pub filter : (test : ℕ → Bool) (slots : List ℕ) → List ℕ
filter p [] = []
filter p (a ∷ l) = cond (p a) (a ∷ filter p l) (filter p l)
