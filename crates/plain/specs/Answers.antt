-- What the code's answers stand for.
-- Letters: W words, n count, r root, k link, q query, x interval, Q rules of the lookup
use Rattle.std.specs.Prelude.{Bool, true, false, ◌&&◌, List, ℕ, length}
use Rattle.std.specs.declared.ops.Bound.{Bound}
use Rattle.std.specs.declared.ops.Bound.TheVariants.{Included, Excluded, Unbounded}
use Rattle.iter.specs.Walk.{Rules}
use Rattle.iter.specs.declared.rules.Query.{Query}
use Rattle.iter.specs.declared.rules.Query.TheVariants.{Overlap, Ruled, Exact}
use Rattle.plain_rule.specs.Tour.{entries, plain}
use Rattle.plain.specs.declared.Tally.{Tally}

-- whether a query asks for every entry
abbrev pub unbounded : (bound : Bound ℕ) → Bool
unbounded (Included x) = false
unbounded (Excluded x) = false
unbounded Unbounded = true

unfoldable pub asks_all : (query : Query) → Bool
asks_all (Overlap q) = unbounded q.lo && unbounded q.hi
asks_all (Ruled k q) = unbounded q.lo && unbounded q.hi
asks_all (Exact x) = false

-- how many hits there are, and how many entries the lookup went through
abbrev pub tally : (count : ℕ) (words : List ℕ) (rules : Rules) (root : ℕ) → Tally
tally n W Q r = record { hits = length (plain n W Q r); entered = length (entries n W r) }
