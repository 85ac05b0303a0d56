-- What is looked for, and what a walk for it goes by.
-- Letters: W words, n count, x interval asked for, q range, k link
use Rattle.std.specs.Prelude.{List, ℕ}
use Rattle.iter.specs.declared.rules.Query.{Query}
use Rattle.iter.specs.declared.rules.Query.TheVariants.{Overlap, Ruled, Exact}
use Rattle.iter.specs.Walk.{Rules}
use Rattle.iter.specs.Overlap.{overlap, ruled}
use Rattle.iter.specs.Exact.{exact}

unfoldable pub rules : (words : List ℕ) (count : ℕ) (query : Query) → Rules
rules W n (Overlap q) = overlap W n q
rules W n (Ruled k q) = ruled W n k q
rules W n (Exact x) = exact W n x
