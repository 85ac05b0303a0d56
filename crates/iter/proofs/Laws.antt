-- What the code's tests and calls say of a rule, in the form that `search` takes.
use mathlib.Core.Path.{◌≡◌, refl, sym, ap, ◌∙◌}
use mathlib.Core.Bool.{Bool, true, false, cond, ◌&&◌, true≢false, false≢true}
use mathlib.Core.List.{List}
use Prim.Native.Nat.{ℕ, zero, suc, ◌-◌, ◌*◌, ◌/◌, ◌^◌, ◌<◌, ◌≤◌}
use native.Mathlib.Omega.{arith}
use lib.Dec.{eqb, leb, ltb}
use borrow.Author.Tests.{lt-ltb, le-ltb, ltb-true, leb-false, eq-eqb, ne_eqb}
use Rattle.words.specs.Ix.{U, link_of, on_link}
use Rattle.words.specs.Intervals.{reached, admits, intersects, le, eq, contains}
use Rattle.words.specs.Nodes.{interval, kid}
use Rattle.std.specs.declared.ops.Bound.{Bound}
use Rattle.words.specs.declared.interval.Span.{Span}
use Rattle.words.specs.declared.interval.Interval.{Interval}
use Rattle.std.specs.declared.option.Option.{Option}
use Rattle.std.specs.declared.option.Option.TheVariants.{Some, None}
use Rattle.words.proofs.Laws.{linked, unlinked}
use Rattle.stack.specs.States.{top}
use Rattle.stack.proofs.Levels.{four_two}
use Rattle.iter.specs.Ranges.{by_rule_lem}
use Rattle.iter.specs.Overlap.{should_go, should_go_left_lem, should_go_right_lem, meets}
use Rattle.iter.specs.Exact.{equals, toward, find}
use Rattle.iter.specs.Queries.{rules}
use Rattle.iter.specs.Cursors.{stack_of}
use Rattle.iter.specs.Places.{Levelled, Placed, Known}
use Rattle.iter.specs.declared.Cursor.{Cursor}
use Rattle.iter.specs.declared.walk.Place.{Place}
use Rattle.iter.proofs.Bools.{and_left, and_right}
use Rattle.iter.specs.declared.rules.Query.{Query}
use Rattle.iter.specs.declared.rules.Query.TheVariants.{Overlap, Ruled, Exact}

-- a link that was read and taken apart
pub child_there : {A : Type 0} (r : A) (n w k a : ℕ) (l : Option ℕ) (f : ℕ → A) (z : A) → w ≡ k → l ≡ link_of n w → l ≡ Some a → r ≡ f a → r ≡ on_link n k f z
child_there r n w k a l f z i e q p = rw (← i) (linked r n w a l f z e q p)

pub child_gone : {A : Type 0} (r : A) (n w k : ℕ) (l : Option ℕ) (f : ℕ → A) (z : A) → w ≡ k → l ≡ link_of n w → l ≡ None → r ≡ z → r ≡ on_link n k f z
child_gone r n w k l f z i e q p = rw (← i) (unlinked r n w l f z e q p)

-- a link that a test holds behind leads to a slot
pub behind_live : (n k : ℕ) (f : ℕ → Bool) (r : Bool) → r ≡ on_link n k f false → r ≡ true → k < n
unfolding on_link
behind_live n k f r e t = go (leb n k) refl (sym e ∙ t)
  where
    go : (b : Bool) → leb n k ≡ b → cond b false (f k) ≡ true → k < n
    go true i p = absurd (false≢true p)
    go false i p = leb-false n k i

-- a bound, and what was read
module _ (r : Bool) (b : Bound ℕ) (h x : ℕ) (e : h ≡ x) where
  pub reached_at : r ≡ reached b h → r ≡ reached b x
  reached_at p = rw (← e) p

  pub admits_at : r ≡ admits b h → r ≡ admits b x
  admits_at p = rw (← e) p

-- an exact query, the interval and the hull that were read
module _ (a b : Bool) (x i j h k : Interval) (e : i ≡ j) (f : h ≡ k) (q : b ≡ contains h x) where
  pub both_left : a ≡ le x i → (a && b) ≡ (le x j && contains k x)
  both_left p = rw (p, q, e, f)

  pub both_right : a ≡ le i x → (a && b) ≡ (le j x && contains k x)
  both_right p = rw (p, q, e, f)

-- the two sides
module _ (W : List ℕ) (n s : ℕ) (r b : Bool) (q : Span) where
  pub on_left : b ≡ true → r ≡ should_go_left_lem W n q.lo s → r ≡ should_go W n q b s
  unfolding should_go
  on_left e p = rw e p

  pub on_right : b ≡ false → r ≡ should_go_right_lem W n q.hi s → r ≡ should_go W n q b s
  unfolding should_go
  on_right e p = rw e p

-- the rules of a query
module _ (W : List ℕ) (n s : ℕ) (r : Bool) (q : Query) (i : Interval) (h : i ≡ interval W s) where
  pub match_overlap : (x : Span) → q ≡ Overlap x → r ≡ intersects x i → r ≡ (rules W n q).match s
  unfolding rules meets
  match_overlap x e p = rw e (p ∙ ap (λ (j : Interval). intersects x j) h)

  pub match_ruled : (k : ℕ) (x y : Span) → q ≡ Ruled k x → y ≡ by_rule_lem k x → r ≡ intersects y i → r ≡ (rules W n q).match s
  unfolding rules meets
  match_ruled k x y e f p = rw e (p ∙ ap (λ (z : Span). intersects z i) f ∙ ap (λ (j : Interval). intersects (by_rule_lem k x) j) h)

  pub match_exact : (x : Interval) → q ≡ Exact x → r ≡ eq i x → r ≡ (rules W n q).match s
  unfolding rules equals
  match_exact x e p = rw e (p ∙ ap (λ (j : Interval). eq j x) h)

-- the highest equal node: S is what the search from a link k finds
module _ (W : List ℕ) (n : ℕ) (x : Interval) (f k S : ℕ) (s : S ≡ find W n x f k) where
  pub find_none : f ≤ 0 → U ≡ S
  unfolding find
  find_none h = let z : f ≡ 0 = omega arith in sym (s ∙ rw z)

  pub find_out : n ≤ k → U ≡ S
  unfolding find
  find_out h = sym (s ∙ go f)
    where
      go : (g : ℕ) → find W n x g k ≡ U
      go zero = refl
      go (suc g) = rw (le-ltb k n h)

  module _ (i : Interval) (a : Bool) (more : 0 < f) (h : k < n) (e : i ≡ interval W k) (p : a ≡ eq i x) where
    turn : S ≡ cond a k (find W n x (f - 1) (kid W (le x i) k))
    unfolding find toward equals
    turn = s ∙ go f more
      where
        go : (g : ℕ) → 0 < g → find W n x g k ≡ cond a k (find W n x (g - 1) (kid W (le x i) k))
        go zero z = absurd (omega arith)
        go (suc g) z = let u : suc g - 1 ≡ g = omega arith in rw (u, lt-ltb k n h, p, e)

    pub find_here : a ≡ true → k ≡ S
    find_here t = sym (turn ∙ rw t)

    pub find_on : (w g : ℕ) (b : Bool) → a ≡ false → b ≡ le x i → w ≡ kid W b k → g ≡ f - 1 → S ≡ find W n x g w
    find_on w g b t q l j = turn ∙ rw (t, l, q, j)

pub from_level_is : (x j : ℕ) → x / 2 ^ (2 * j) ≡ x / 4 ^ j
from_level_is x j = rw (four_two j)

-- a cursor at a live slot
module _ (n : ℕ) (c : Cursor) (p : Placed n c) (h : c.slot < n) where
  pub levelled : Levelled c
  levelled = p h

  pub some_level : 1 ≤ c.levels
  some_level = (p h).0

  pub top_level : c.levels - 1 < 32
  top_level = omega (arith, (p h).0, (p h).1)

pub state_known : (n : ℕ) (p : Place) → Known n p → p.cursor.slot < n → p.state ≡ top (stack_of p.cursor)
state_known n p k h = k h

pub placed_as : (n : ℕ) (c d : Cursor) → d ≡ c → Placed n c → Placed n d
placed_as n c d e p = rw e p

-- a walk that goes down finds room
pub room : (g : Bool) (l : ℕ) → (g ≡ true → l < 32) → g ≡ true → l < 32
room g l f t = f t

pub same_as : (v a b : ℕ) → a ≡ v → a ≡ b → v ≡ b
same_as v a b e f = sym e ∙ f

-- a test of the slot and another one
pub outside : (n k : ℕ) (b : Bool) → n ≤ k → false ≡ (ltb k n && b)
outside n k b h = rw (le-ltb k n h)

-- a state v that is u at a live slot, tested for t
module _ (n k v u t : ℕ) (f : k < n → v ≡ u) where
  pub in_state : v ≡ t → ltb k n ≡ (ltb k n && eqb u t)
  in_state e = go (ltb k n) refl
    where
      go : (b : Bool) → ltb k n ≡ b → b ≡ (b && eqb u t)
      go true i = sym (eq-eqb u t (sym (f (ltb-true k n i)) ∙ e))
      go false i = refl

  pub out_state : (v ≡ t → ⊥) → false ≡ (ltb k n && eqb u t)
  out_state z = go (ltb k n) refl
    where
      go : (b : Bool) → ltb k n ≡ b → false ≡ (b && eqb u t)
      go true i = sym (ne_eqb u t (λ q. z (f (ltb-true k n i) ∙ q)))
      go false i = refl

-- a live slot in a state, and its entry
module _ (b t : Bool) (n k : ℕ) (e : t ≡ (ltb k n && b)) where
  pub is_live : t ≡ true → k < n
  is_live i = ltb-true k n (and_left (ltb k n) b (sym e ∙ i))

module _ (a b t m : Bool) (e : t ≡ (a && b)) where
  pub hit_on : (r : Bool) → t ≡ true → r ≡ m → r ≡ (a && (b && m))
  hit_on r i f = rw (and_left a b (sym e ∙ i), and_right a b (sym e ∙ i)) f

  pub hit_off : t ≡ false → false ≡ (a && (b && m))
  hit_off i = go a b (sym e ∙ i)
    where
      go : (x y : Bool) → x && y ≡ false → false ≡ (x && (y && m))
      go true true z = absurd (true≢false z)
      go true false z = refl
      go false y z = refl
