-- Links: a slot, or none.
-- Letters: n count, k link, f found (for the slot that the link leads to), z otherwise (if it leads
--   to none)
use Rattle.std.specs.Prelude.{Bool, cond, ℕ, leb, Option, Some, None}

-- "The undefined link U is 4294967295."
abbrev pub U : ℕ
U = 4294967295

-- a link word leads to no slot of a store of n entries: it is not below the count
abbrev pub gone : (count link : ℕ) → Bool
gone n k = leb n k

-- the link of a word
abbrev pub link_of : (count link : ℕ) → Option ℕ
link_of n k = cond (gone n k) None (Some k)

-- by cases on a link word: f of its slot, or z where it leads to none
unfoldable pub on_link : {A : Type 0} → (count link : ℕ) (found : ℕ → A) (otherwise : A) → A
on_link n k f z = cond (gone n k) z (f k)
