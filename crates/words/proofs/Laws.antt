-- What the code's tests say of a rule, in the form that `search` takes.
use mathlib.Core.Path.{◌≡◌, refl, sym, ap, ◌∙◌}
use mathlib.Core.Bool.{Bool, true, false, cond, not}
use mathlib.Core.List.{List}
use Prim.Native.Nat.{ℕ, ◌+◌, ◌<◌, ◌≤◌}
use native.Mathlib.Omega.{arith}
use lib.Dec.{leb}
use borrow.Author.Tests.{le-leb, lt-leb, leb-false}
use Rattle.words.specs.Ix.{gone, link_of, on_link}
use Rattle.words.specs.Layouts.{Held}
use Rattle.words.specs.Intervals.{eq, extended}
use Rattle.words.specs.Nodes.{hull, hull_of, altered, fix, put_hull_lem}
use Rattle.words.specs.declared.interval.Interval.{Interval}
use Rattle.std.specs.declared.option.Option.{Option}
use Rattle.std.specs.declared.option.Option.TheVariants.{Some, None}

-- a number below the count, and one that is not
pub there : {A : Type 0} (n k : ℕ) (r x y : A) → k < n → r ≡ y → r ≡ cond (leb n k) x y
there n k r x y h e = rw (lt-leb n k h) e

pub missing : {A : Type 0} (n k : ℕ) (r x y : A) → n ≤ k → r ≡ x → r ≡ cond (leb n k) x y
missing n k r x y h e = rw (le-leb n k h) e

-- a link that was taken apart: its slot is the word, and below the count
slot_cases : {X : Type 0} (n w k : ℕ) (l : Option ℕ) → l ≡ link_of n w → l ≡ Some k → (k ≡ w → w < n → X) → X
slot_cases {X = X} n w k l e q f = go (leb n w) refl (sym q ∙ e)
  where
    go : (t : Bool) → leb n w ≡ t → Some k ≡ cond t None (Some w) → X
    go true p z = let y : ◌≡◌ {A = ℕ} 0 1 = cc in absurd (omega arith)
    go false p z = f (cc) (leb-false n w p)

nil_gone : (n w : ℕ) (l : Option ℕ) → l ≡ link_of n w → l ≡ None → gone n w ≡ true
nil_gone n w l e q = go (gone n w) (sym q ∙ e)
  where
    go : (t : Bool) → None ≡ cond t None (Some w) → t ≡ true
    go true z = refl
    go false z = let y : ◌≡◌ {A = ℕ} 0 1 = cc in absurd (omega arith)

pub linked : {A : Type 0} (r : A) (n w k : ℕ) (l : Option ℕ) (f : ℕ → A) (z : A) → l ≡ link_of n w → l ≡ Some k → r ≡ f k → r ≡ on_link n w f z
unfolding on_link
linked r n w k l f z e q h = slot_cases n w k l e q (λ s b. rw (lt-leb n w b, ← s) h)

pub unlinked : {A : Type 0} (r : A) (n w : ℕ) (l : Option ℕ) (f : ℕ → A) (z : A) → l ≡ link_of n w → l ≡ None → r ≡ z → r ≡ on_link n w f z
unfolding on_link
unlinked r n w l f z e q h = rw (nil_gone n w l e q) h

pub slot_live : (n w k : ℕ) (l : Option ℕ) → l ≡ link_of n w → l ≡ Some k → k < n
slot_live n w k l e q = slot_cases n w k l e q (λ s b. omega arith)

pub slot_room : (narrow : Bool) (n k s len : ℕ) (l : Option ℕ) → l ≡ link_of n k → l ≡ Some s → Held narrow n len → Held narrow (s + 1) len
slot_room narrow n k s len l e q h = let b : s < n = slot_live n k s l e q in omega arith

pub extended_by : (r d h x : Interval) → h ≡ x → r ≡ extended d h → r ≡ extended d x
extended_by r d h x e q = q ∙ ap (λ (i : Interval). extended d i) e

pub slot_below : (n k s len : ℕ) (l : Option ℕ) → l ≡ link_of n k → l ≡ Some s → n ≤ len → s < len
slot_below n k s len l e q h = omega (arith, slot_live n k s l e q)

-- a hull that is worked out
module _ (n : ℕ) (W : List ℕ) (s : ℕ) (h : Interval) (e : h ≡ hull_of n W s) where
  pub altered_is : (o : Interval) (t : Bool) → o ≡ hull W s → t ≡ not (eq o h) → t ≡ altered n W s
  unfolding altered
  altered_is o t f q = rw (q, f, e)

  pub fixed_is : (X : List ℕ) → X ≡ put_hull_lem W s h → X ≡ fix n W s
  unfolding fix
  fixed_is X q = rw (← e) q
