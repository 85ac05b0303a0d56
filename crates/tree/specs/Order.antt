-- "entries in tree order never fall (by start, then end; equals allowed)": said of the intervals
-- alone, whatever slots hold them.
-- Letters: W words, a interval, b next interval, l intervals or slots
use Rattle.std.specs.Prelude.{List, [], ◌∷◌, map, ℕ, ◌≤◌}
use Rattle.words.specs.Nodes.{interval}
use Rattle.words.specs.declared.interval.Interval.{Interval}

-- a is not after b: by start, and where the starts are equal, by end
pub record NotAfter (a b : Interval) : Type 0 where
  pub starts : a.start ≤ b.start
  pub stops : b.start ≤ a.start → a.end ≤ b.end

-- a is not after the first of a list, if there is one
abbrev pub Next : (interval : Interval) (intervals : List Interval) → Type 0
Next a [] = Unit {0}
Next a (b ∷ l) = NotAfter a b

-- each is not after the next
abbrev pub Rising : (intervals : List Interval) → Type 0
Rising [] = Unit {0}
Rising (a ∷ l) = Next a l × Rising l

-- the entries of these slots never fall
abbrev pub RisingAt : (words slots : List ℕ) → Type 0
RisingAt W l = Rising (map (interval W) l)
