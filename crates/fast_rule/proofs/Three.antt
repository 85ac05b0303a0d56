-- The rule of the fast lookup, computed in stores of three entries. Slot 1 is the root, with 0 on
-- its left and 2 on its right.
use mathlib.Core.Path.{◌≡◌, refl}
use mathlib.Core.List.{List, [], ◌∷◌}
use Prim.Native.Nat.{ℕ}
use Rattle.words.specs.Ix.{U, on_link}
use Rattle.words.specs.Nodes.{word}
use Rattle.std.specs.declared.ops.Bound.{Bound}
use Rattle.std.specs.declared.ops.Bound.TheVariants.{Included, Excluded, Unbounded}
use Rattle.stack.specs.States.{state_at_lem, put_state_lem, top, marked, pushed, popped}
use Rattle.iter.specs.Cursors.{fresh, up_to}
use Rattle.iter.specs.Walk.{deeper, mark, down, move, enters, hits, seek, step}
use Rattle.iter.specs.Drains.{drain}
use Rattle.iter.specs.Overlap.{meets, should_go}
use Rattle.iter.specs.Exact.{equals, toward, should_go_exact, find}
use Rattle.iter.specs.Queries.{rules}
use Rattle.iter.specs.declared.rules.Query.{Query}
use Rattle.iter.specs.declared.rules.Query.TheVariants.{Overlap, Exact}
use Rattle.fast_rule.specs.Fast.{should_enter, fast_rules, start_at, entering, fast_nodes, fast_hits}

-- [5, 6), [7, 8) and [9, 10)
abbrev three : List ℕ
three = 5 ∷ 6 ∷ 0 ∷ 5 ∷ 6 ∷ U ∷ U ∷ 1 ∷ 7 ∷ 8 ∷ 0 ∷ 5 ∷ 10 ∷ 0 ∷ 2 ∷ U ∷ 9 ∷ 10 ∷ 0 ∷ 9 ∷ 10 ∷ U ∷ U ∷ 1 ∷ []

-- [5, 6) three times
abbrev equals3 : List ℕ
equals3 = 5 ∷ 6 ∷ 0 ∷ 5 ∷ 6 ∷ U ∷ U ∷ 1 ∷ 5 ∷ 6 ∷ 0 ∷ 5 ∷ 6 ∷ 0 ∷ 2 ∷ U ∷ 5 ∷ 6 ∷ 0 ∷ 5 ∷ 6 ∷ U ∷ U ∷ 1 ∷ []

abbrev range : Bound ℕ → Bound ℕ → Query
range a b = Overlap (record { lo = a; hi = b })

abbrev only : ℕ → ℕ → Query
only a b = Exact (record { start = a; end = b })

-- what the rules compute with: to unfold one of these names is to unfold all that its line names
fast : Unit {0}
unfolding on_link word meets should_enter fast_rules start_at entering fast_nodes fast_hits equals toward should_go_exact find
fast = record {}

pruned : Unit {0}
unfolding on_link word state_at_lem put_state_lem top marked pushed popped up_to deeper mark down move enters hits seek step drain meets should_go rules
pruned = record {}

-- all of them, in tree order
pub three_all : fast_hits three 3 (range Unbounded Unbounded) 1 ≡ 0 ∷ 1 ∷ 2 ∷ []
unfolding fast
three_all = refl

-- the entry that starts at an Included upper bound is found; at an Excluded one it is not
pub three_at : fast_hits three 3 (range (Included 8) (Included 9)) 1 ≡ 2 ∷ []
unfolding fast
three_at = refl

pub three_below : fast_hits three 3 (range (Included 8) (Excluded 9)) 1 ≡ []
unfolding fast
three_below = refl

-- before all entries, and past all of them: the fast lookup enters the root alone, a drain one
-- child too
pub three_before : (fast_nodes three 3 (range (Included 0) (Excluded 1)) 1 ≡ 1 ∷ [])
    × ((drain three 3 (rules three 3 (range (Included 0) (Excluded 1))) 1 (fresh 1)).entered ≡ 2)
unfolding fast pruned
three_before = (refl, refl)

pub three_past : (fast_nodes three 3 (range (Included 10) Unbounded) 1 ≡ 1 ∷ [])
    × ((drain three 3 (rules three 3 (range (Included 10) Unbounded)) 1 (fresh 1)).entered ≡ 2)
unfolding fast pruned
three_past = (refl, refl)

-- all equal entries, in tree order
pub three_equal : fast_hits equals3 3 (only 5 6) 1 ≡ 0 ∷ 1 ∷ 2 ∷ []
unfolding fast
three_equal = refl

-- an exact lookup begins at the highest equal node, and does not enter those above it
pub three_start : fast_nodes three 3 (only 9 10) 1 ≡ 2 ∷ []
unfolding fast
three_start = refl
