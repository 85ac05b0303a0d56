-- "insertion there is refused exactly if some stored entry intersects the new one, and names the
-- first such slot in tree order": of an interval x, on a store that passes the check, whether or
-- not its entries intersect.
use mathlib.Core.Path.{◌≡◌}
use mathlib.Core.Bool.{true, false}
use mathlib.Core.List.{List}
use Prim.Native.Nat.{ℕ, ◌<◌, ◌≤◌}
use Rattle.words.specs.Ix.{U}
use Rattle.words.specs.Intervals.{intersects}
use Rattle.words.specs.Lists.{filter}
use Rattle.words.specs.Nodes.{interval}
use Rattle.words.specs.declared.interval.Interval.{Interval}
use Rattle.tree.specs.Tree.{slots}
use Rattle.tree.specs.Passes.{Passes}
use Rattle.iter.specs.Lists.{first_or}
use Rattle.iter.specs.Overlap.{meets}
use Rattle.first_rule.specs.First.{first_in}
use Rattle.first_rule.proofs.Firsts.{first_in_lem, first_some, first_none}
use Rattle.disjoint_rule.specs.Disjoint.{range_of}

module _ (W C : List ℕ) (n r : ℕ) (small : n ≤ 65535) (P : Passes W C n r) (x : Interval) where
  -- the slot that is named is the first one in tree order
  pub overlap_first : first_in (range_of x) W n r ≡ first_or U (filter (λ s. intersects (range_of x) (interval W s)) (slots P.tree))
  unfolding meets
  overlap_first = first_in_lem W C n r small P (range_of x)

  -- if a slot is named, its entry intersects x; if none is, no entry does
  pub overlap_some : first_in (range_of x) W n r < n → intersects (range_of x) (interval W (first_in (range_of x) W n r)) ≡ true
  overlap_some = first_some W C n r small P (range_of x)

  pub overlap_none : n ≤ first_in (range_of x) W n r → (a : ℕ) → a < n → intersects (range_of x) (interval W a) ≡ false
  overlap_none = first_none W C n r small P (range_of x)
