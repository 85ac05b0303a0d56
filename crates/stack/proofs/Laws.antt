-- What the code's arithmetic and tests say of a rule, in the form that `search` takes.
use mathlib.Core.Path.{◌≡◌, refl, sym, ap, subst, ◌∙◌}
use mathlib.Core.Bool.{Bool, true, false, cond, ◌&&◌, true≢false}
use Prim.Native.Nat.{ℕ, ◌+◌, ◌-◌, ◌*◌, ◌/◌, ◌%◌, ◌^◌, ◌<◌, ◌≤◌}
use native.Mathlib.Omega.{arith}
use native.Mathlib.Nat.{div-one, mod-eq_of_lt, lt_of_le_of_lt, lt_of_lt_of_le}
use lib.Bits.{bit_and}
use lib.Pow.{pow-add, pow_mono, shl_lt}
use lib.Dec.{leb}
use borrow.Author.Tests.{leb-true}
use Rattle.bitvec.proofs.Weights.{and_weight, digit_put, digit_le}
use Rattle.stack.specs.States.{state_at_lem, put_state_lem, top, marked, pushed, popped}
use Rattle.stack.specs.Calls.{Told, numbers, lent, outcome_of, done, bad_bit, some, mark_rule, push_rule, pop_rule, just_entered, not_returned, not_right, went_left}
use Rattle.stack.specs.declared.ActionStack.{ActionStack}
use Rattle.std.specs.Prelude.{Result, Ok, Err}
use Rattle.words.specs.declared.refusal.Refusal.{Refusal}
use Rattle.stack.proofs.Levels.{four_two, put_low, state_low}

-- the weight of a level's first bit, from that in its byte
pub level_weight_lem : (j a : ℕ) → j < 32 → a ≡ 2 ^ (2 * (j % 4)) → (a * 2 ^ (8 * (j / 4))) % 18446744073709551616 ≡ 4 ^ j
level_weight_lem j a h e = rw (e, ← pow-add, k) (mod-eq_of_lt (lt_of_le_of_lt (pow_mono {i = 2 * j} {j = 62} (omega arith)) (omega arith)) ∙ sym (four_two j))
  where
    k : 2 * (j % 4) + 8 * (j / 4) ≡ 2 * j
    k = omega arith

pub weighed_fits : (j v w : ℕ) → w ≡ 4 ^ j → j < 32 → v < 4 → v * w < 18446744073709551616
weighed_fits j v w e h l = rw (e, four_two) (lt_of_lt_of_le (shl_lt {a = v} 2 (2 * j) l) (pow_mono {i = 2 + 2 * j} {j = 64} (omega arith)))

-- the two bits of a level, each at its weight
module _ (x j a b : ℕ) (e : a ≡ 2 ^ 0) (f : b ≡ 2 ^ 1) where
  pub read : bit_and (x / 2 ^ (2 * j)) a + bit_and (x / 2 ^ (2 * j)) b ≡ state_at_lem x j
  unfolding state_at_lem
  read = rw (e, f, ← four_two, and_weight, and_weight, div-one) (omega arith)

  pub read_fits : bit_and (x / 2 ^ (2 * j)) a + bit_and (x / 2 ^ (2 * j)) b < 18446744073709551616
  read_fits = rw read (omega (arith, state_low x j))

pub state_below : (x j s : ℕ) → s ≡ state_at_lem x j → s < 4
state_below x j s e = rw e (state_low x j)

-- a number without the state s of a level, at its weight w, and with v in its place
module _ (x j s w : ℕ) (e : s ≡ state_at_lem x j) (f : w ≡ 4 ^ j) where
  pub taken_in : s * w ≤ x
  unfolding state_at_lem
  taken_in = rw (e, f) (digit_le x (4 ^ j) 4)

  module _ (v : ℕ) where
    pub written : x - s * w + v * w ≡ put_state_lem x j v
    unfolding state_at_lem put_state_lem
    written = rw (e, f) (digit_put x (4 ^ j) 4 v)

    pub written_fits : x < 18446744073709551616 → j < 32 → v < 4 → x - s * w + v * w < 18446744073709551616
    written_fits h i l = rw written (put_low x j v 32 h i l)

-- a stack that has a top level
module _ (s : ActionStack) (b : Bool) (e : b ≡ some s) (t : b ≡ true) where
  levels_in : (1 ≤ s.levels) × (s.levels ≤ 32)
  unfolding some
  levels_in = go (leb 1 s.levels) (leb s.levels 32) refl refl (sym e ∙ t)
    where
      go : (p q : Bool) → leb 1 s.levels ≡ p → leb s.levels 32 ≡ q → (p && q) ≡ true → (1 ≤ s.levels) × (s.levels ≤ 32)
      go true true f g z = (leb-true 1 s.levels f, leb-true s.levels 32 g)
      go true false f g z = absurd (true≢false (sym z))
      go false q f g z = absurd (true≢false (sym z))

  pub not_empty : 1 ≤ s.levels
  not_empty = levels_in.0

  pub not_over : s.levels ≤ 32
  not_over = levels_in.1

-- answers by what they are made of
module _ (v u : ℕ) (s : ActionStack) (e : v ≡ u) where
  pub done_entered : done (just_entered v) s ≡ done (just_entered u) s
  done_entered = rw e

  pub done_returned : done (not_returned v) s ≡ done (not_returned u) s
  done_returned = rw e

  pub done_right : done (not_right v) s ≡ done (not_right u) s
  done_right = rw e

  pub done_left : (t : ActionStack) → t ≡ marked (went_left v) s → done false t ≡ done false (marked (went_left u) s)
  done_left t q = rw (q, e)

pub done_stack : (s t : ActionStack) → s ≡ t → done false s ≡ done false t
done_stack s t e = rw e

-- `push`, `pop` and the state marks test nothing
both_quiet : (b : Bool) (x y : Told) → x.yes ≡ false → y.yes ≡ false → (cond b x y).yes ≡ false
both_quiet true x y e f = e
both_quiet false x y e f = f

pub push_quiet : (s : ActionStack) → (push_rule s).yes ≡ false
unfolding push_rule
push_quiet s = both_quiet (leb 32 s.levels) (bad_bit s) (done false (pushed s)) refl refl

pub pop_quiet : (s : ActionStack) → (pop_rule s).yes ≡ false
unfolding pop_rule
pop_quiet s = both_quiet (some s) (done false (popped s)) (bad_bit s) refl refl

pub mark_quiet : (gives : ℕ → ℕ) (s : ActionStack) → (mark_rule gives s).yes ≡ false
unfolding mark_rule
mark_quiet gives s = both_quiet (some s) (done false (marked (gives (top s)) s)) (bad_bit s) refl refl

-- what a call on the record itself returns, by what the call by value returned
pub lent_back : (given : ActionStack) (a : Result (Bool × ActionStack) Refusal) (r : Told) → numbers given a ≡ r → r.yes ≡ false → lent (outcome_of a) (numbers given a).stack ≡ r
lent_back given (Ok (b, s)) r e q = let z : b ≡ false = ap (λ (t : Told). t.yes) e ∙ q in subst (λ (x : Bool). done x s ≡ r) z e
lent_back given (Err y) r e q = e

pub lent_from : (given after : ActionStack) (r : Result Unit Refusal) (x : Told)
    → (a : Result (Bool × ActionStack) Refusal) × (ActionStack × (numbers given a ≡ x)) × (r ≡ outcome_of a) × (after ≡ (numbers given a).stack) → x.yes ≡ false → lent r after ≡ x
lent_from given after r x (a, p, e, f) q = rw (e, f) (lent_back given a x p.1 q)
