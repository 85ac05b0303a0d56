-- Document 02, item 13: "Unload everything in a range". The entries that intersect q go. For the
-- rule k of item 11 the range is `by_rule_lem k q`.
-- Letters: W words, C colours, n count, r root, q range, e entry
use Rattle.std.specs.Prelude.{Bool, List, ℕ}
use Rattle.words.specs.Intervals.{intersects}
use Rattle.words.specs.declared.interval.Span.{Span}
use Rattle.words.specs.declared.node.Entry.{Entry}
use Rattle.tree_edit.specs.Store.{store}
use Rattle.first_rule.specs.First.{first_in}
use Rattle.unload_rule.specs.Sweep.{Sweep, sweep, gone_slots}

-- the entry intersects the range
abbrev pub within : (range : Span) (entry : Entry) → Bool
within q e = intersects q (record { start = e.start; end = e.end })

-- all such entries of the n in a store go
unfoldable pub unload_rule_lem : (words colours : List ℕ) (count root : ℕ) (range : Span) → Sweep
unload_rule_lem W C n r q = sweep (first_in q) n (store W C r) n

-- the slots from which they go
unfoldable pub unload_slots : (words colours : List ℕ) (count root : ℕ) (range : Span) → List ℕ
unload_slots W C n r q = gone_slots (first_in q) n (store W C r) n
