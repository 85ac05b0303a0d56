-- The first entry in tree order that intersects a range, by one way down. The test p says of an end
-- whether it goes past the lower bound, and the test m of a start whether the upper bound admits
-- it.
-- Letters: W words, n count, r root, k link, s slot, p passes (the test of an end), m admits (the
--   test of a start), a slot behind the link, q range
use Rattle.std.specs.Prelude.{Bool, true, false, cond, not, ◌&&◌, List, ℕ, ltb}
use Rattle.words.specs.Ix.{U, on_link}
use Rattle.words.specs.Nodes.{start, stop, hi, kid}
use Rattle.words.specs.Intervals.{passed, admits}
use Rattle.words.specs.declared.interval.Span.{Span}
use Rattle.first_rule.specs.Way.{WayDown, way_end, way_nodes}

-- some entry behind a link goes past the lower bound: its hull end does
unfoldable pub past : (passes : ℕ → Bool) (words : List ℕ) (count link : ℕ) → Bool
past p W n k = on_link n k (λ a. p (hi W a)) false

-- left if some entry there goes past the bound; else the way ends at the node if its own entry
-- does; else right
abbrev pub past_way : (passes : ℕ → Bool) (words : List ℕ) (count : ℕ) → WayDown
past_way p W n =
    record { ends = λ s. not (past p W n (kid W true s)) && p (stop W s); left = λ s. past p W n (kid W true s) }

-- the first entry below the link k that goes past the bound, U if there is none, with at most
-- `height` nodes on the way
unfoldable pub first_past_lem : (passes : ℕ → Bool) (words : List ℕ) (count height link : ℕ) → ℕ
first_past_lem p W n height k = way_end (past_way p W n) W n height k

-- The first one below the root, if the upper bound admits its start, else U: entries after it start
-- no earlier. A tree has at most 32 nodes on a way.
unfoldable pub first_met_lem : (passes admits : ℕ → Bool) (words : List ℕ) (count root : ℕ) → ℕ
first_met_lem p m W n r =
    let s : ℕ = first_past_lem p W n 32 r in
    cond (ltb s n && m (start W s)) s U

-- the first entry that intersects a range, and the nodes that the search visits
unfoldable pub first_in : (range : Span) (words : List ℕ) (count root : ℕ) → ℕ
first_in q W n r = first_met_lem (passed q.lo) (admits q.hi) W n r

unfoldable pub first_nodes : (range : Span) (words : List ℕ) (count root : ℕ) → List ℕ
first_nodes q W n r = way_nodes (past_way (passed q.lo) W n) W n 32 r
