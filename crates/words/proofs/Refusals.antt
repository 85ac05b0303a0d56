-- A refusal's number says which it is.
use mathlib.Core.Path.{◌≡◌, refl}
use mathlib.Core.Bool.{cond}
use Prim.Native.Nat.{ℕ, ◌<◌}
use native.Mathlib.Omega.{arith}
use lib.Dec.{eqb}
use Rattle.words.specs.Refusals.{refusal_number}
use Rattle.words.specs.declared.refusal.Refusal.{Refusal}
use Rattle.words.specs.declared.refusal.Refusal.TheVariants.{NoRoom, Broken, NoSuch, BadRange, BadInterval, NotSorted, BadCursor, BadList, ShortOutput, BadBit, Stale, BadImage, Overlap, NotDisjoint, BadPlan}

-- the refusal of a number, one test after the other
abbrev pub refusal_at : ℕ → Refusal
refusal_at k =
    cond (eqb k 2) Broken (
    cond (eqb k 3) NoSuch (
    cond (eqb k 4) BadRange (
    cond (eqb k 5) BadInterval (
    cond (eqb k 6) NotSorted (
    cond (eqb k 7) BadCursor (
    cond (eqb k 8) BadList (
    cond (eqb k 9) ShortOutput (
    cond (eqb k 10) BadBit (
    cond (eqb k 11) Stale (
    cond (eqb k 12) BadImage (
    cond (eqb k 13) Overlap (
    cond (eqb k 14) NotDisjoint (
    cond (eqb k 15) BadPlan (
    NoRoom))))))))))))))

pub at_number : (y : Refusal) → refusal_at (refusal_number y) ≡ y
at_number NoRoom = refl
at_number Broken = refl
at_number NoSuch = refl
at_number BadRange = refl
at_number BadInterval = refl
at_number NotSorted = refl
at_number BadCursor = refl
at_number BadList = refl
at_number ShortOutput = refl
at_number BadBit = refl
at_number Stale = refl
at_number BadImage = refl
at_number Overlap = refl
at_number NotDisjoint = refl
at_number BadPlan = refl

pub number_pos : (y : Refusal) → 0 < refusal_number y
number_pos NoRoom = omega arith
number_pos Broken = omega arith
number_pos NoSuch = omega arith
number_pos BadRange = omega arith
number_pos BadInterval = omega arith
number_pos NotSorted = omega arith
number_pos BadCursor = omega arith
number_pos BadList = omega arith
number_pos ShortOutput = omega arith
number_pos BadBit = omega arith
number_pos Stale = omega arith
number_pos BadImage = omega arith
number_pos Overlap = omega arith
number_pos NotDisjoint = omega arith
number_pos BadPlan = omega arith
