-- The bounds of a range, on rising numbers.
use mathlib.Core.Path.{◌≡◌, refl, sym, ◌∙◌}
use mathlib.Core.Bool.{Bool, true, false, cond, false≢true}
use Prim.Native.Nat.{ℕ, ◌+◌, ◌≤◌}
use native.Mathlib.Omega.{arith}
use lib.Dec.{eqb, ltb}
use borrow.Author.Tests.{leb-true, leb-false, ltb-true, le-leb, lt-ltb, le-ltb}
use Rattle.words.specs.Intervals.{passed, reached, admits}
use Rattle.std.specs.declared.ops.Bound.{Bound}
use Rattle.std.specs.declared.ops.Bound.TheVariants.{Included, Excluded, Unbounded}
use Rattle.iter.specs.Ranges.{last, after, whole_from_lem}

passed_one : (x : Bound ℕ) (a b : ℕ) → a ≤ b → reached x b ≡ false → passed x a ≡ false
passed_one (Included x) a b h e = le-ltb x a (omega (arith, leb-false x b e))
passed_one (Excluded x) a b h e = le-ltb x a (omega (arith, leb-false x b e))
passed_one Unbounded a b h e = e

-- the first whole address of a lower bound is not before it
after_least : (x : ℕ) → x ≤ after x
after_least x = go (ltb x last)
  where
    go : (t : Bool) → x ≤ cond t (x + 1) x
    go true = omega arith
    go false = omega arith

pub whole_reached : (x : Bound ℕ) (a : ℕ) → reached (whole_from_lem x) a ≡ true → reached x a ≡ true
whole_reached (Included x) a e = e
whole_reached (Excluded x) a e = le-leb x a (omega (arith, leb-true (after x) a e, after_least x))
whole_reached Unbounded a e = e

-- whatever the rule, what is not reached is not passed
pub passed_not : (k : ℕ) (x : Bound ℕ) (a b : ℕ) → a ≤ b → reached x b ≡ false → passed (cond (eqb k 2) (whole_from_lem x) x) a ≡ false
passed_not k x a b h e = go (eqb k 2)
  where
    shut : (t : Bool) → reached (whole_from_lem x) b ≡ t → t ≡ false
    shut false i = refl
    shut true i = absurd (false≢true (sym e ∙ whole_reached x b i))

    go : (t : Bool) → passed (cond t (whole_from_lem x) x) a ≡ false
    go true = passed_one (whole_from_lem x) a b h (shut (reached (whole_from_lem x) b) refl)
    go false = passed_one x a b h e

pub admits_before : (y : Bound ℕ) (a b : ℕ) → a ≤ b → admits y b ≡ true → admits y a ≡ true
admits_before (Included x) a b h e = le-leb a x (omega (arith, leb-true b x e))
admits_before (Excluded x) a b h e = lt-ltb a x (omega (arith, ltb-true b x e))
admits_before Unbounded a b h e = refl

pub admits_not : (y : Bound ℕ) (a b : ℕ) → a ≤ b → admits y a ≡ false → admits y b ≡ false
admits_not y a b h e = go (admits y b) refl
  where
    go : (t : Bool) → admits y b ≡ t → t ≡ false
    go false q = refl
    go true q = absurd (false≢true (sym e ∙ admits_before y a b h q))
