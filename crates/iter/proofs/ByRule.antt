-- The rules of a range against their code.
use mathlib.Core.Path.{◌≡◌, refl, ◌∙◌}
use mathlib.Core.Bool.{Bool, true, false, cond, ◌&&◌}
use Prim.Native.Nat.{ℕ, ◌+◌}
use native.Mathlib.Omega.{arith}
use lib.Dec.{leb, ltb}
use borrow.Author.Tests.{ltb-true, ltb-false, le-leb, lt-leb, eq-eqb, ne_eqb}
use Rattle.words.specs.Intervals.{admits}
use Rattle.std.specs.declared.ops.Bound.{Bound}
use Rattle.std.specs.declared.ops.Bound.TheVariants.{Included, Excluded, Unbounded}
use Rattle.words.specs.declared.interval.Span.{Span}
use Rattle.iter.specs.Ranges.{last, after, whole_from_lem, by_rule_lem, any_whole}

-- the first whole address of an Excluded bound
pub from_after : (x y : ℕ) (b : Bound ℕ) → b ≡ Excluded x → y ≡ after x → Included y ≡ whole_from_lem b
from_after x y b e f = rw (e, f)

-- by the number of the rule
module _ (k : ℕ) (q : Span) where
  pub by_two : (b : Bound ℕ) → k ≡ 2 → b ≡ whole_from_lem q.lo → record { lo = b; hi = q.hi } ≡ by_rule_lem k q
  by_two b e f = rw (eq-eqb k 2 e, f)

  pub by_other : (k ≡ 2 → ⊥) → q ≡ by_rule_lem k q
  by_other h = rw (ne_eqb k 2 h)

-- whether some whole address lies in a range
module _ (lo hi : Bound ℕ) (r : Bool) where
  pub any_included : (x : ℕ) → lo ≡ Included x → r ≡ (leb x last && admits hi x) → r ≡ any_whole lo hi
  any_included x e f = rw e f

  pub any_excluded : (x : ℕ) → lo ≡ Excluded x → r ≡ cond (ltb x last) (admits hi (x + 1)) false → r ≡ any_whole lo hi
  any_excluded x e f = rw e (f ∙ go (ltb x last) refl)
    where
      go : (t : Bool) → ltb x last ≡ t → cond t (admits hi (x + 1)) false ≡ (leb (x + 1) last && admits hi (x + 1))
      go true i = rw (le-leb (x + 1) last (omega (arith, ltb-true x last i)))
      go false i = rw (lt-leb (x + 1) last (omega (arith, ltb-false x last i)))

  pub any_unbounded : lo ≡ Unbounded → r ≡ (leb 0 last && admits hi 0) → r ≡ any_whole lo hi
  any_unbounded e f = rw e f
