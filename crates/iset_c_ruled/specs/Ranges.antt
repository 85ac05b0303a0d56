-- A query by numbers: a range by the kinds and the numbers of its two bounds, and the number of a
-- rule.
use Rattle.std.specs.Prelude.{ℕ}
use Rattle.iter.specs.declared.rules.Query.{Query}
use Rattle.iter.specs.declared.rules.Query.TheVariants.{Ruled}
use Rattle.iset_c.specs.Ranges.{span_of}

abbrev pub ruled_of : (rule lo-kind lo hi-kind hi : ℕ) → Query
ruled_of rule lo-kind lo hi-kind hi = Ruled rule (span_of lo-kind lo hi-kind hi)
