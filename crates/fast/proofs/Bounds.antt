-- A range as two numbers, in the form that `search` takes.
use mathlib.Core.Path.{◌≡◌}
use mathlib.Core.Bool.{Bool, true, false, ◌&&◌}
use mathlib.Core.List.{List}
use Prim.Native.Nat.{ℕ, ◌+◌, ◌<◌, ◌≤◌}
use native.Mathlib.Omega.{arith}
use lib.Dec.{eqb, leb}
use borrow.Author.Tests.{eqb-false}
use Rattle.std.specs.declared.ops.Bound.{Bound}
use Rattle.std.specs.declared.ops.Bound.TheVariants.{Included, Excluded}
use Rattle.words.specs.Nodes.{lo, hi, kid}
use Rattle.iter.proofs.Laws.{behind_live}
use Rattle.fast.specs.Numbers.{last, no_end_lem, no_start, goes_to}

pub included_fits : (lo : Bound ℕ) (x : ℕ) → lo ≡ Included x → no_end_lem lo ≡ false → x < 18446744073709551616 → x + 1 < 18446744073709551616
included_fits lo x e h q = let i : eqb x last ≡ false = rw e at h in omega (arith, eqb-false x last i)

pub excluded_fits : (lo : Bound ℕ) (x : ℕ) → lo ≡ Excluded x → no_end_lem lo ≡ false → x < 18446744073709551616 → x + 1 < 18446744073709551616
excluded_fits lo x e h q = let i : eqb x last ≡ false = rw e at h in omega (arith, eqb-false x last i)

pub start_fits : (hi : Bound ℕ) (y : ℕ) → hi ≡ Excluded y → no_start hi ≡ false → 1 ≤ y
start_fits hi y e h = let i : eqb y 0 ≡ false = rw e at h in omega (arith, eqb-false y 0 i)

-- the two ends of what was read
pub both_ends : (low high e s x y : ℕ) → e ≡ x → s ≡ y → (leb low e && leb s high) ≡ (leb low x && leb y high)
both_ends low high e s x y p q = rw (p, q)

-- a child that is entered is there
pub near_there : (W : List ℕ) (n low high : ℕ) (b : Bool) (s : ℕ) (g : Bool) → g ≡ goes_to W n low high b s
    → (g ≡ goes_to W n low high b s) × (g ≡ true → kid W b s < n)
unfolding goes_to
near_there W n low high b s g e = (e, behind_live n (kid W b s) (λ a. leb low (hi W a) && leb (lo W a) high) g e)
