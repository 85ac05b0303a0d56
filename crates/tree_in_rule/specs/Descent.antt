-- "Go left when the new interval is less than the node's, else right": the way down to the place of
-- a new entry.
-- Letters: W words, n count, r root, k slot, x interval, s slot
use Rattle.std.specs.Prelude.{Bool, not, List, ℕ, zero, suc}
use Rattle.words.specs.Ix.{U, on_link}
use Rattle.words.specs.Intervals.{le}
use Rattle.words.specs.Nodes.{interval, kid}
use Rattle.words.specs.declared.interval.Interval.{Interval}

-- the new interval is less than that of slot k: that of slot k is not at or before it
unfoldable pub goes_left_lem : (words : List ℕ) (interval : Interval) (slot : ℕ) → Bool
goes_left_lem W x k = not (le (interval W k) x)

-- the slot from k down under which there is nothing on the side to go to, `height` links at the
-- most
unfoldable pub descend : (count height : ℕ) (words : List ℕ) (interval : Interval) (slot : ℕ) → ℕ
descend n zero W x k = k
descend n (suc height) W x k = on_link n (kid W (goes_left_lem W x k) k) (λ s. descend n height W x s) k

-- `insert_inner`: the link word of the slot that the new node hangs under, no slot if the map is
-- empty
unfoldable pub under : (count : ℕ) (words : List ℕ) (root : ℕ) (interval : Interval) → ℕ
under n W r x = on_link n r (λ s. descend n 32 W x s) U
