-- Laws of the order: of lists of intervals, then of lists of slots.
use mathlib.Core.Path.{◌≡◌, refl, sym, ◌∙◌}
use mathlib.Core.Bool.{Bool, true, false, ◌&&◌, ◌||◌, true≢false}
use mathlib.Core.List.{List, [], ◌∷◌, ◌++◌, map, map-append}
use Prim.Native.Nat.{ℕ, ◌<◌, ◌≤◌}
use native.Mathlib.Omega.{arith}
use lib.Dec.{eqb, leb, ltb}
use borrow.Author.Tests.{eqb-true, eq-eqb, leb-true, le-leb, ltb-true, ltb-false}
use Rattle.words.specs.Intervals.{le}
use Rattle.words.specs.Nodes.{interval}
use Rattle.words.specs.declared.interval.Interval.{Interval}
use Rattle.tree.specs.Order.{NotAfter, Rising, RisingAt}
use Rattle.tree.proofs.Cases.{compare}
use Rattle.tree.specs.Tree.{times}
use Rattle.tree.proofs.Slots.{hit_cases}

pub after_self : (a : Interval) → NotAfter a a
after_self a = record { starts = omega arith; stops = λ h. omega arith }

pub after_trans : {a b c : Interval} → NotAfter a b → NotAfter b c → NotAfter a c
after_trans p q = record { starts = omega arith; stops = λ h. omega (arith, p.stops (omega arith), q.stops (omega arith)) }

-- the test of two intervals
pub le_sound : (a b : Interval) → le a b ≡ true → NotAfter a b
le_sound a b h = go (ltb a.start b.start) (eqb a.start b.start) refl refl h
  where
    go : (t u : Bool) → ltb a.start b.start ≡ t → eqb a.start b.start ≡ u → t || (u && leb a.end b.end) ≡ true
        → NotAfter a b
    go true u e i q =
        let z : a.start < b.start = ltb-true a.start b.start e in
        record { starts = omega arith; stops = λ x. absurd (omega arith) }
    go false true e i q =
        let z : a.start ≡ b.start = eqb-true a.start b.start i in
        record { starts = omega arith; stops = λ x. leb-true a.end b.end q }
    go false false e i q = absurd (true≢false (sym q))

pub le_complete : (a b : Interval) → NotAfter a b → le a b ≡ true
le_complete a b o = go (ltb a.start b.start) refl
  where
    go : (t : Bool) → ltb a.start b.start ≡ t → t || (eqb a.start b.start && leb a.end b.end) ≡ true
    go true e = refl
    go false e =
        let z : b.start ≤ a.start = ltb-false a.start b.start e in
        rw (eq-eqb a.start b.start (omega (arith, o.starts)), le-leb a.end b.end (o.stops z)) refl

-- what is greater is not at or before
pub le_not : (a b : Interval) → le a b ≡ false → NotAfter b a
le_not a b h =
    record {
      starts = compare b.start a.start (λ q. q) (λ q. absurd (no (record { starts = omega arith; stops = λ x. absurd (omega arith) })));
      stops = λ x. compare b.end a.end (λ q. q) (λ q. absurd (no (record { starts = x; stops = λ y. omega arith })));
    }
  where
    no : NotAfter a b → ⊥
    no o = true≢false (sym (le_complete a b o) ∙ h)

-- a is not after any of a list
abbrev pub Before : Interval → List Interval → Type 0
Before a [] = Unit {0}
Before a (b ∷ l) = NotAfter a b × Before a l

pub before_next : (a b : Interval) (l : List Interval) → NotAfter a b → Before b l → Before a l
before_next a b [] p h = tt
before_next a b (c ∷ l) p h = (after_trans p h.0, before_next a b l p h.1)

pub rising_before : (a : Interval) (l : List Interval) → Rising (a ∷ l) → Before a l
rising_before a [] h = tt
rising_before a (b ∷ l) h = (h.0, before_next a b l h.0 (rising_before b l h.1))

pub rising_front : (xs ys : List Interval) → Rising (xs ++ ys) → Rising xs
rising_front [] ys h = tt
rising_front (a ∷ []) ys h = (tt, tt)
rising_front (a ∷ b ∷ xs) ys h = (h.0, rising_front (b ∷ xs) ys h.1)

pub rising_back : (xs ys : List Interval) → Rising (xs ++ ys) → Rising ys
rising_back [] ys h = h
rising_back (a ∷ xs) ys h = rising_back xs ys h.1

pub before_back : (a : Interval) (xs ys : List Interval) → Before a (xs ++ ys) → Before a ys
before_back a [] ys h = h
before_back a (b ∷ xs) ys h = before_back a xs ys h.1

-- the same intervals in other slots
pub rising_same : (W X : List ℕ) (l m : List ℕ) → map (interval X) m ≡ map (interval W) l → RisingAt W l → RisingAt X m
rising_same W X l m e h = rw e h

module _ (W : List ℕ) where
  pub rising_left : (xs ys : List ℕ) → RisingAt W (xs ++ ys) → RisingAt W xs
  rising_left xs ys h = rising_front (map (interval W) xs) (map (interval W) ys) (rw map-append at h)

  pub rising_right : (xs ys : List ℕ) → RisingAt W (xs ++ ys) → RisingAt W ys
  rising_right xs ys h = rising_back (map (interval W) xs) (map (interval W) ys) (rw map-append at h)

  pub before_at : (a : Interval) (b : ℕ) (l : List ℕ) → Before a (map (interval W) l) → 0 < times b l → NotAfter a (interval W b)
  before_at a b [] h o = absurd (omega arith)
  before_at a b (c ∷ l) h o = hit_cases b c (λ e. rw e h.0) (λ z. before_at a b l h.1 (omega arith))

  -- a slot of the first part is not after one of the second
  pub rising_at : (a b : ℕ) (xs ys : List ℕ) → RisingAt W (xs ++ ys) → 0 < times a xs → 0 < times b ys
      → NotAfter (interval W a) (interval W b)
  rising_at a b [] ys h o p = absurd (omega arith)
  rising_at a b (c ∷ xs) ys h o p =
      hit_cases a c
      (λ e. let i : Before (interval W c) (map (interval W) (xs ++ ys)) = rising_before (interval W c) (map (interval W) (xs ++ ys)) h in
      rw e (before_at (interval W c) b ys (before_back (interval W c) (map (interval W) xs) (map (interval W) ys) (rw map-append at i)) p))
      (λ z. rising_at a b xs ys h.1 (omega arith) p)
