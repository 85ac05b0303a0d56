-- A range as two numbers, so that a test of the lookup is two comparisons.
-- Letters: W words, n count, s slot, b side (true: left), a slot, x interval, y refusal
use Rattle.std.specs.Prelude.{Bool, false, ◌&&◌, List, ℕ, ◌+◌, ◌-◌, eqb, leb}
use Rattle.words.specs.Ix.{on_link}
use Rattle.words.specs.Nodes.{start, stop, lo, hi, kid}
use Rattle.std.specs.declared.ops.Bound.{Bound}
use Rattle.std.specs.declared.ops.Bound.TheVariants.{Included, Excluded, Unbounded}
use Rattle.iter.specs.Walk.{Rules}

-- the greatest number of 64 bits
abbrev pub last : ℕ
last = 18446744073709551615

-- no number of 64 bits goes past a lower bound; none is admitted by an upper bound
abbrev pub no_end_lem : (bound : Bound ℕ) → Bool
no_end_lem (Included x) = eqb x last
no_end_lem (Excluded x) = eqb x last
no_end_lem Unbounded = false

abbrev pub no_start : (bound : Bound ℕ) → Bool
no_start (Included y) = false
no_start (Excluded y) = eqb y 0
no_start Unbounded = false

-- else: the least number that goes past a lower bound, and the greatest that an upper bound admits
abbrev pub least_end_lem : (bound : Bound ℕ) → ℕ
least_end_lem (Included x) = x + 1
least_end_lem (Excluded x) = x + 1
least_end_lem Unbounded = 0

abbrev pub last_start_lem : (bound : Bound ℕ) → ℕ
last_start_lem (Included y) = y
last_start_lem (Excluded y) = y - 1
last_start_lem Unbounded = last

-- whether the child of slot s on the side b is entered, by the two numbers
unfoldable pub goes_to : (words : List ℕ) (count low high : ℕ) (side : Bool) (slot : ℕ) → Bool
goes_to W n low high b s = on_link n (kid W b s) (λ a. leb low (hi W a) && leb (lo W a) high) false

unfoldable pub lies_in_lem : (words : List ℕ) (low high slot : ℕ) → Bool
lies_in_lem W low high s = leb low (stop W s) && leb (start W s) high

-- the rules of the overlap lookup by the two numbers
abbrev pub between : (words : List ℕ) (count low high : ℕ) → Rules
between W n low high = record { go = goes_to W n low high; match = lies_in_lem W low high }
