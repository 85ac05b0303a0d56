-- What the rule's tests tell, each said once for both directions.
use mathlib.Core.Path.{◌≡◌, refl}
use mathlib.Core.Bool.{Bool, true, false, not, ◌&&◌, ◌||◌, false≢true}
use Prim.Native.Nat.{ℕ, ◌<◌, ◌≤◌}
use native.Mathlib.Omega.{arith}
use lib.Dec.{eqb, ltb, leb}
use borrow.Author.Tests.{eq-eqb, eqb-true, ltb-true, ltb-false, lt-ltb, leb-true, le-leb, not-true}
use Rattle.words.specs.Ix.{U}
use Rattle.words.specs.Intervals.{le}
use Rattle.words.specs.declared.interval.Interval.{Interval}
use Rattle.tree.specs.Order.{NotAfter}
use Rattle.audit.specs.declared.Node.{Node}
use Rattle.audit.specs.Survey.{enters}

-- a test says yes exactly if P holds
pub record Tells (b : Bool) (P : Type 0) : Type 0 where
  pub holds : b ≡ true → P
  pub says : P → b ≡ true

-- a test that says yes is one whose both parts do
pub both : {a b : Bool} {P Q : Type 0} → Tells a P → Tells b Q → Tells (a && b) (P × Q)
both {a} {b} {P} {Q} p q = record { holds = go a b p q; says = λ h. rw (p.says h.0, q.says h.1) }
  where
    go : (a b : Bool) → Tells a P → Tells b Q → a && b ≡ true → P × Q
    go true b p q e = (p.holds refl, q.holds e)
    go false b p q e = absurd (false≢true e)

pub itself : (b : Bool) → Tells b (b ≡ true)
itself b = record { holds = λ e. e; says = λ e. e }

pub less : (a b : ℕ) → Tells (ltb a b) (a < b)
less a b = record { holds = ltb-true a b; says = lt-ltb a b }

pub same : (a b : ℕ) → Tells (eqb a b) (a ≡ b)
same a b = record { holds = eqb-true a b; says = eq-eqb a b }

pub not_so : (b : Bool) → Tells (not b) (b ≡ false)
not_so b = record { holds = not-true b; says = λ e. rw e }

-- the order of two intervals
pub after : (a b : Interval) → Tells (le a b) (NotAfter a b)
after a b = record { holds = go (ltb a.start b.start) refl; says = back (ltb a.start b.start) refl }
  where
    ends : Tells (eqb a.start b.start && leb a.end b.end) ((a.start ≡ b.start) × leb a.end b.end ≡ true)
    ends = both (same a.start b.start) (itself (leb a.end b.end))

    go : (t : Bool) → ltb a.start b.start ≡ t → t || (eqb a.start b.start && leb a.end b.end) ≡ true → NotAfter a b
    go true q e = record { starts = omega (arith, ltb-true); stops = λ h. omega (arith, ltb-true) }
    go false q e = record { starts = omega (arith, (ends.holds e).0); stops = λ h. leb-true a.end b.end (ends.holds e).1 }

    back : (t : Bool) → ltb a.start b.start ≡ t → NotAfter a b → t || (eqb a.start b.start && leb a.end b.end) ≡ true
    back true q h = refl
    back false q h =
        let x : b.start ≤ a.start = ltb-false a.start b.start q in
        ends.says (omega arith, le-leb a.end b.end (h.stops x))

-- two links differ, unless they are undefined
pub twins : (a b : ℕ) → Tells (not (eqb a b) || eqb a U) (a ≡ b → a ≡ U)
twins a b = record { holds = λ e q. eqb-true a U (rw (eq-eqb a b q) at e); says = go (eqb a b) refl }
  where
    go : (t : Bool) → eqb a b ≡ t → (a ≡ b → a ≡ U) → not t || eqb a U ≡ true
    go true e h = eq-eqb a U (h (eqb-true a b e))
    go false e h = refl

-- a red node has no red child
pub no_red_red : (a b c : Bool) → Tells (not a || not (b || c)) (a ≡ true → (b ≡ false) × (c ≡ false))
no_red_red a b c = record { holds = go a b c; says = back a }
  where
    go : (a b c : Bool) → not a || not (b || c) ≡ true → a ≡ true → (b ≡ false) × (c ≡ false)
    go true false false e q = (refl, refl)
    go true false true e q = absurd (false≢true e)
    go true true c e q = absurd (false≢true e)
    go false b c e q = absurd (false≢true q)

    back : (a : Bool) → (a ≡ true → (b ≡ false) × (c ≡ false)) → not a || not (b || c) ≡ true
    back true f = rw ((f refl).0, (f refl).1)
    back false f = refl

-- a slot is entered
module _ (N : ℕ → Node) (n p k : ℕ) where
  pub entering : Tells (enters N n p k) ((k < n) × (((N k).parent ≡ p) × ((N k).left ≡ (N k).right → (N k).left ≡ U)))
  entering = both (less k n) (both (same (N k).parent p) (twins (N k).left (N k).right))
