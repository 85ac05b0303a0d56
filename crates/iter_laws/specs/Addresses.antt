-- Document 02, item 11: "an entry intersects if some whole address from 0 to 18446744073709551615
-- lies in both".
-- Letters: q range, x interval asked for, a address or child of s
use Rattle.std.specs.Prelude.{ℕ, ◌<◌, ◌≤◌}
use Rattle.std.specs.declared.ops.Bound.{Bound}
use Rattle.std.specs.declared.ops.Bound.TheVariants.{Included, Excluded, Unbounded}
use Rattle.words.specs.declared.interval.Span.{Span}
use Rattle.words.specs.declared.interval.Interval.{Interval}

-- an address is on the right side of a lower bound, of an upper bound
abbrev pub From : (bound : Bound ℕ) (address : ℕ) → Type 0
From (Included x) a = x ≤ a
From (Excluded x) a = x < a
From Unbounded a = Unit {0}

abbrev pub UpTo : (bound : Bound ℕ) (address : ℕ) → Type 0
UpTo (Included x) a = a ≤ x
UpTo (Excluded x) a = a < x
UpTo Unbounded a = Unit {0}

-- a whole address lies in a range
pub record InRange (q : Span) (a : ℕ) : Type 0 where
  pub whole : a ≤ 18446744073709551615
  pub from : From q.lo a
  pub up_to : UpTo q.hi a

-- and in an interval too
pub record Shared (q : Span) (x : Interval) (a : ℕ) : Type 0 where
  pub held : InRange q a
  pub start : x.start ≤ a
  pub end : a < x.end
