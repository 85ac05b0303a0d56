-- "Input: triples start, end, value."
-- Letters: S triples, k index of a triple, p test, m places to test
use Rattle.std.specs.Prelude.{Bool, true, false, cond, List, ℕ, zero, suc, ◌+◌, ◌-◌, ◌*◌, ◌/◌, length, get_or}
use Rattle.words.specs.Intervals.{proper, le}
use Rattle.words.specs.declared.interval.Interval.{Interval}
use Rattle.words.specs.declared.node.Entry.{Entry}

-- how many triples stand in the list S
abbrev pub count : (triples : List ℕ) → ℕ
count S = length S / 3

-- the k-th triple
unfoldable pub start_of : (triples : List ℕ) (index : ℕ) → ℕ
start_of S k = get_or S (k * 3) 0

unfoldable pub end_of : (triples : List ℕ) (index : ℕ) → ℕ
end_of S k = get_or S (k * 3 + 1) 0

unfoldable pub value_of : (triples : List ℕ) (index : ℕ) → ℕ
value_of S k = get_or S (k * 3 + 2) 0

abbrev pub interval_of_lem : (triples : List ℕ) (index : ℕ) → Interval
interval_of_lem S k = record { start = start_of S k; end = end_of S k }

abbrev pub entry_of : (triples : List ℕ) (index : ℕ) → Entry
entry_of S k = record { start = start_of S k; end = end_of S k; value = value_of S k }

-- p holds at each of the m places from k on
unfoldable pub every : (test : ℕ → Bool) (index places : ℕ) → Bool
every p k zero = true
every p k (suc m) = cond (p k) (every p (suc k) m) false

-- "start < end"
unfoldable pub proper_at : (triples : List ℕ) (index : ℕ) → Bool
proper_at S k = proper (interval_of_lem S k)

-- the k-th triple is not after the next: "by start, then end; equals allowed"
unfoldable pub in_order_lem : (triples : List ℕ) (index : ℕ) → Bool
in_order_lem S k = le (interval_of_lem S k) (interval_of_lem S (k + 1))

-- each triple is proper, and none is after the next
unfoldable pub all_proper_lem : (triples : List ℕ) → Bool
all_proper_lem S = every (proper_at S) 0 (count S)

unfoldable pub sorted : (triples : List ℕ) → Bool
sorted S = every (in_order_lem S) 0 (count S - 1)
