-- A query that asks for every entry.
use mathlib.Core.Path.{◌≡◌, refl, sym, ◌∙◌}
use mathlib.Core.Bool.{Bool, true, false, cond, ◌&&◌, false≢true}
use mathlib.Core.List.{List}
use Prim.Native.Nat.{ℕ}
use Rattle.words.specs.Intervals.{passed, admits}
use Rattle.words.specs.Nodes.{interval}
use Rattle.std.specs.declared.ops.Bound.{Bound}
use Rattle.std.specs.declared.ops.Bound.TheVariants.{Included, Excluded, Unbounded}
use Rattle.words.specs.declared.interval.Span.{Span}
use Rattle.words.specs.declared.interval.Interval.{Interval}
use lib.Dec.{eqb}
use Rattle.iter.specs.Ranges.{whole_from_lem}
use Rattle.iter.specs.Overlap.{meets}
use Rattle.iter.specs.Queries.{rules}
use Rattle.iter.specs.declared.rules.Query.{Query}
use Rattle.iter.specs.declared.rules.Query.TheVariants.{Overlap, Ruled, Exact}
use Rattle.plain.specs.Answers.{unbounded, asks_all}

-- two tests
pub both_are : (a b x y : Bool) → a ≡ x → b ≡ y → (a && b) ≡ (x && y)
both_are a b x y e f = rw (e, f)

-- by the kind of the query
pub all_range : (Q : Query) (q : Span) (r : Bool) → Q ≡ Overlap q → r ≡ unbounded q.lo && unbounded q.hi → r ≡ asks_all Q
unfolding asks_all
all_range Q q r e f = rw e f

pub all_ruled : (Q : Query) (k : ℕ) (q : Span) (r : Bool) → Q ≡ Ruled k q → r ≡ unbounded q.lo && unbounded q.hi → r ≡ asks_all Q
unfolding asks_all
all_ruled Q k q r e f = rw e f

pub all_exact : (Q : Query) (x : Interval) → Q ≡ Exact x → false ≡ asks_all Q
unfolding asks_all
all_exact Q x e = rw e

-- it asks for each entry
meets_all : (lo hi : Bound ℕ) (s e : ℕ) → unbounded lo && unbounded hi ≡ true → true ≡ passed lo e && admits hi s
meets_all Unbounded Unbounded s e h = refl
meets_all Unbounded (Included x) s e h = absurd (false≢true h)
meets_all Unbounded (Excluded x) s e h = absurd (false≢true h)
meets_all (Included x) hi s e h = absurd (false≢true h)
meets_all (Excluded x) hi s e h = absurd (false≢true h)

match_all : (W : List ℕ) (n s : ℕ) (Q : Query) → asks_all Q ≡ true → true ≡ (rules W n Q).match s
unfolding asks_all rules meets
match_all W n s (Overlap q) h = meets_all q.lo q.hi (interval W s).start (interval W s).end h
match_all W n s (Ruled k q) h = go (eqb k 2) q.lo h
  where
    go : (t : Bool) (b : Bound ℕ) → unbounded b && unbounded q.hi ≡ true → true ≡ passed (cond t (whole_from_lem b) b) (interval W s).end && admits q.hi (interval W s).start
    go true Unbounded i = meets_all Unbounded q.hi (interval W s).start (interval W s).end i
    go true (Included x) i = absurd (false≢true i)
    go true (Excluded x) i = absurd (false≢true i)
    go false b i = meets_all b q.hi (interval W s).start (interval W s).end i
match_all W n s (Exact x) h = absurd (false≢true h)

pub is_all : (W : List ℕ) (n s : ℕ) (Q : Query) (b : Bool) → b ≡ true → b ≡ asks_all Q → true ≡ (rules W n Q).match s
is_all W n s Q b t e = match_all W n s Q (sym e ∙ t)
