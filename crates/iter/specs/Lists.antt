-- Parts of lists.
-- Letters: b wanted?, l list, a slot, d default
use Rattle.std.specs.Prelude.{Bool, cond, List, [], ◌∷◌, ℕ}

-- the list l if b, else nothing
abbrev pub when : {A : Type 0} → (wanted? : Bool) (list : List A) → List A
when b l = cond b l []

-- the first of a list, d where there is none
abbrev pub first_or : (default : ℕ) (list : List ℕ) → ℕ
first_or d [] = d
first_or d (a ∷ l) = a
