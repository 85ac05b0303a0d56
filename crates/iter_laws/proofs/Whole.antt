-- What rule 2 says of a range and an entry: some whole address lies in both.
use mathlib.Core.Path.{◌≡◌, refl}
use mathlib.Core.Bool.{Bool, true, false, cond, ◌&&◌}
use Prim.Native.Nat.{ℕ, ◌+◌, ◌<◌, ◌≤◌, max}
use native.Mathlib.Omega.{arith}
use lib.Dec.{eqb, leb, ltb}
use borrow.Author.Tests.{leb-true, leb-false, ltb-true, le-leb, lt-ltb}
use Rattle.words.specs.Intervals.{passed, admits, intersects}
use Rattle.std.specs.declared.ops.Bound.{Bound}
use Rattle.std.specs.declared.ops.Bound.TheVariants.{Included, Excluded, Unbounded}
use Rattle.words.specs.declared.interval.Span.{Span}
use Rattle.words.specs.declared.interval.Interval.{Interval}
use Rattle.iter.specs.Ranges.{last, whole_from_lem, first_from, by_rule_lem, any_whole}
use Rattle.iter.proofs.Bools.{and_left, and_right}
use Rattle.iter_laws.specs.Addresses.{From, UpTo, InRange, Shared}
use Rattle.iter_laws.proofs.Bounds.{admits_before}

-- rule 2, and any other, finds no more than rule 1
whole_passed : (b : Bound ℕ) (e : ℕ) → passed (whole_from_lem b) e ≡ true → passed b e ≡ true
whole_passed (Included x) e h = h
whole_passed (Excluded x) e h = go (ltb x last) h
  where
    go : (t : Bool) → ltb (cond t (x + 1) x) e ≡ true → ltb x e ≡ true
    go true q = lt-ltb x e (omega (arith, ltb-true (x + 1) e q))
    go false q = q
whole_passed Unbounded e h = refl

pub ruled_less : (k : ℕ) (q : Span) (x : Interval) → intersects (by_rule_lem k q) x ≡ true → intersects q x ≡ true
ruled_less k q x h = go (eqb k 2) h
  where
    go : (t : Bool) → passed (cond t (whole_from_lem q.lo) q.lo) x.end && admits q.hi x.start ≡ true → intersects q x ≡ true
    go false p = p
    go true p =
        rw (whole_passed q.lo x.end (and_left (passed (whole_from_lem q.lo) x.end) (admits q.hi x.start) p))
        (and_right (passed (whole_from_lem q.lo) x.end) (admits q.hi x.start) p)

from_first : (b : Bound ℕ) (a : ℕ) → first_from b ≤ a → From b a
from_first (Included x) a h = h
from_first (Excluded x) a h = omega arith
from_first Unbounded a h = tt

first_from_lem : (b : Bound ℕ) (a : ℕ) → From b a → first_from b ≤ a
first_from_lem (Included x) a h = h
first_from_lem (Excluded x) a h = omega arith
first_from_lem Unbounded a h = omega arith

admits_up : (b : Bound ℕ) (a : ℕ) → admits b a ≡ true → UpTo b a
admits_up (Included x) a h = leb-true a x h
admits_up (Excluded x) a h = ltb-true a x h
admits_up Unbounded a h = tt

up_admits : (b : Bound ℕ) (a : ℕ) → UpTo b a → admits b a ≡ true
up_admits (Included x) a h = le-leb a x h
up_admits (Excluded x) a h = lt-ltb a x h
up_admits Unbounded a h = refl

-- rule 2 accepts a range exactly if some whole address lies in it
pub any_holds : (lo hi : Bound ℕ) → any_whole lo hi ≡ true → InRange (record { lo = lo; hi = hi }) (first_from lo)
any_holds lo hi e =
    record {
      whole = leb-true (first_from lo) last (and_left (leb (first_from lo) last) (admits hi (first_from lo)) e);
      from = from_first lo (first_from lo) (omega arith);
      up_to = admits_up hi (first_from lo) (and_right (leb (first_from lo) last) (admits hi (first_from lo)) e);
    }

pub holds_any : (lo hi : Bound ℕ) (a : ℕ) → InRange (record { lo = lo; hi = hi }) a → any_whole lo hi ≡ true
holds_any lo hi a h =
    let f : first_from lo ≤ a = first_from_lem lo a h.from in
    rw (le-leb (first_from lo) last (omega (arith, h.whole))) (admits_before hi (first_from lo) a f (up_admits hi a h.up_to))

-- an entry intersects by rule 2 exactly if some whole address lies in both
passed_first : (b : Bound ℕ) (e : ℕ) → (first_from b ≤ last) → 0 < e → passed (whole_from_lem b) e ≡ true → first_from b < e
passed_first (Included x) e s z h = ltb-true x e h
passed_first (Excluded x) e s z h = let i : ltb x last ≡ true = lt-ltb x last (omega arith) in ltb-true (x + 1) e (rw i at h)
passed_first Unbounded e s z h = z

first_passed : (b : Bound ℕ) (e : ℕ) → first_from b ≤ last → first_from b < e → passed (whole_from_lem b) e ≡ true
first_passed (Included x) e s h = lt-ltb x e h
first_passed (Excluded x) e s h = rw (lt-ltb x last (omega arith)) (lt-ltb (x + 1) e h)
first_passed Unbounded e s h = refl

module _ (q : Span) (x : Interval) where
  pub ruled_shared : any_whole q.lo q.hi ≡ true → x.start < x.end → x.end ≤ last + 1
      → intersects (by_rule_lem 2 q) x ≡ true → Shared q x (max x.start (first_from q.lo))
  ruled_shared w p s e =
      let h : InRange q (first_from q.lo) = any_holds q.lo q.hi w in
      let f : first_from q.lo < x.end = passed_first q.lo x.end h.whole (omega arith) (and_left (passed (whole_from_lem q.lo) x.end) (admits q.hi x.start) e) in
      let m : first_from q.lo ≤ last = h.whole in
      record {
        held = record {
          whole = omega arith;
          from = from_first q.lo (max x.start (first_from q.lo)) (omega arith);
          up_to = pick x.start (first_from q.lo) (admits_up q.hi x.start (and_right (passed (whole_from_lem q.lo) x.end) (admits q.hi x.start) e))
              h.up_to (leb x.start (first_from q.lo)) refl;
        };
        start = omega arith;
        end = omega arith;
      }
    where
      pick : (a b : ℕ) → UpTo q.hi a → UpTo q.hi b → (t : Bool) → leb a b ≡ t → UpTo q.hi (max a b)
      pick a b i j true z = let m : max a b ≡ b = omega (arith, leb-true a b z) in rw m j
      pick a b i j false z = let m : max a b ≡ a = omega (arith, leb-false a b z) in rw m i

  pub shared_ruled : (a : ℕ) → Shared q x a → intersects (by_rule_lem 2 q) x ≡ true
  shared_ruled a h =
      let f : first_from q.lo ≤ a = first_from_lem q.lo a h.held.from in
      rw (first_passed q.lo x.end (omega (arith, h.held.whole)) (omega (arith, h.end)))
      (admits_before q.hi x.start a h.start (up_admits q.hi a h.held.up_to))
