-- The stack's calls in the words of document 01: what each test says of the four states, what state
-- each mark leaves, what `push`, `pop` and `new` write, and when a call is refused.
use mathlib.Core.Path.{◌≡◌, refl, ◌∙◌}
use mathlib.Core.Bool.{Bool, true, false, ◌&&◌}
use Prim.Native.Nat.{ℕ, zero, suc, ◌+◌, ◌-◌, ◌*◌, ◌<◌, ◌≤◌}
use native.Mathlib.Omega.{arith}
use native.Mathlib.Numerals.{add-one}
use native.Mathlib.Nat.{div-eq_of_lt}
use lib.Dec.{leb}
use borrow.Author.Tests.{le-leb, lt-leb, leb-true, ne_eqb}
use Rattle.bitvec.specs.Bits.{bit}
use Rattle.bitvec.proofs.Numbers.{num}
use Rattle.stack.specs.States.{entered, was_left, returned, was_right, state_at_lem, put_state_lem, start, top, marked, pushed, popped}
use Rattle.stack.specs.Calls.{done, some, test_rule, mark_rule, push_rule, pop_rule, is_empty_rule}
use Rattle.stack.specs.Calls.{just_entered, not_returned, not_right, went_left, can_go_left_rule, can_match_rule, can_go_right_rule, go_left_rule, make_match_rule, go_right_rule}
use Rattle.stack.specs.Written.{state, by_state_lem, Writes, refused_by}
use Rattle.stack.specs.declared.ActionStack.{ActionStack}
use Rattle.stack.proofs.Levels.{four, state_low, state_bits, state_put_same, state_put_other}

-- "Level j (from 0) uses bits 2j and 2j + 1"
pub state_says : (x j : ℕ) → state_at_lem x j ≡ state (bit x (2 * j)) (bit x (2 * j + 1))
state_says x j = rw add-one (state_bits x j ∙ go (bit x (2 * j)) (bit x (suc (2 * j))))
  where
    go : (a b : Bool) → num a + 2 * num b ≡ state a b
    go true true = refl
    go true false = refl
    go false true = refl
    go false false = refl

-- what a function says of a state, by the four states
by_state : {A : Type 0} (f : ℕ → A) (v : ℕ) → v < 4 → f v ≡ by_state_lem (f entered) (f was_left) (f returned) (f was_right) v
by_state f zero h = refl
by_state f (suc zero) h = refl
by_state f (suc (suc zero)) h = refl
by_state f (suc (suc (suc zero))) h = refl
by_state f (suc (suc (suc (suc v)))) h = absurd (omega arith)

pub top_low : (s : ActionStack) → top s < 4
unfolding top
top_low s = state_low s.bits (s.levels - 1)

-- one state written
module _ (s : ActionStack) (levels j v : ℕ) (h : v < 4) where
  writes : Writes s levels j v (done false (record { levels = levels; bits = put_state_lem s.bits j v }))
  writes = record {
    done = refl;
    quiet = refl;
    leaves = refl;
    there = state_put_same s.bits j v h;
    elsewhere = λ k d. state_put_other s.bits j k v h d;
  }

-- a stack of 1 to 32 levels
module _ (s : ActionStack) (one : 1 ≤ s.levels) (few : s.levels ≤ 32) where
  pub has : some s ≡ true
  unfolding some
  has = rw (le-leb 1 s.levels one, le-leb s.levels 32 few)

  tests : (f : ℕ → Bool) → test_rule f s ≡ done (by_state_lem (f entered) (f was_left) (f returned) (f was_right) (top s)) s
  unfolding test_rule
  tests f = rw (has, by_state f (top s) (top_low s))

  marks : (f : ℕ → ℕ) → ((v : ℕ) → f v < 4)
      → Writes s s.levels (s.levels - 1) (by_state_lem (f entered) (f was_left) (f returned) (f was_right) (top s)) (mark_rule f s)
  unfolding mark_rule marked
  marks f low = rw (has, ← by_state f (top s) (top_low s)) (writes s s.levels (s.levels - 1) (f (top s)) (low (top s)))

  -- the tests, by the state of the top level: 00 entered, 01 was left, 10 returned, 11 was right
  pub can_go_left_says : can_go_left_rule s ≡ done (by_state_lem true false false false (top s)) s
  can_go_left_says = tests just_entered

  pub can_match_says : can_match_rule s ≡ done (by_state_lem true true false false (top s)) s
  can_match_says = tests not_returned

  pub can_go_right_says : can_go_right_rule s ≡ done (by_state_lem true false true false (top s)) s
  can_go_right_says = tests not_right

  -- the marks write the top level: from 00, from 01, from 10, from 11
  pub go_left_says : Writes s s.levels (s.levels - 1) (by_state_lem was_left was_left was_right was_right (top s)) (go_left_rule s)
  go_left_says = marks went_left (λ v. omega arith)

  pub make_match_says : Writes s s.levels (s.levels - 1) (by_state_lem returned returned returned returned (top s)) (make_match_rule s)
  make_match_says = marks (λ _. returned) (λ v. omega arith)

  pub go_right_says : Writes s s.levels (s.levels - 1) (by_state_lem was_right was_right was_right was_right (top s)) (go_right_rule s)
  go_right_says = marks (λ _. was_right) (λ v. omega arith)

  -- "its pop clears its two"
  pub pop_says : Writes s (s.levels - 1) (s.levels - 1) 0 (pop_rule s)
  unfolding pop_rule popped
  pop_says = rw has (writes s (s.levels - 1) (s.levels - 1) 0 (omega arith))

-- "the stack's push writes 00"
pub push_says : (s : ActionStack) → s.levels < 32 → Writes s (s.levels + 1) s.levels entered (push_rule s)
unfolding push_rule pushed
push_says s h = rw (lt-leb 32 s.levels h) (writes s (s.levels + 1) s.levels entered (omega arith))

-- `new`: one level, 00, and 0 above it
no_bits : (k : ℕ) → state_at_lem 0 k ≡ entered
unfolding state_at_lem
no_bits k = rw (div-eq_of_lt (four k).1)

pub new_says : (start.levels ≡ 1) × ((k : ℕ) → state_at_lem start.bits k ≡ entered)
new_says = (refl, no_bits)

pub is_empty_says : (s : ActionStack) → (s.levels ≡ 0 → is_empty_rule s ≡ done true s) × (1 ≤ s.levels → s.levels ≤ 32 → is_empty_rule s ≡ done false s)
unfolding is_empty_rule
is_empty_says s = (λ e. rw e, λ h l. rw (le-leb s.levels 32 l, ne_eqb s.levels 0 (omega arith)))

-- refusal 10: "pop or state mark of nothing; .. a state test of nothing; any stack call on more
-- than 32 levels"
module _ (s : ActionStack) (outside : 1 ≤ s.levels → s.levels ≤ 32 → ⊥) where
  has_none : some s ≡ false
  unfolding some
  has_none = go (leb 1 s.levels) (leb s.levels 32) refl refl
    where
      go : (p q : Bool) → leb 1 s.levels ≡ p → leb s.levels 32 ≡ q → (p && q) ≡ false
      go true true f g = absurd (outside (leb-true 1 s.levels f) (leb-true s.levels 32 g))
      go true false f g = refl
      go false q f g = refl

  pub tests_refused : (can_go_left_rule s ≡ refused_by 10 s) × (can_match_rule s ≡ refused_by 10 s) × (can_go_right_rule s ≡ refused_by 10 s)
  unfolding test_rule
  tests_refused = (rw has_none, rw has_none, rw has_none)

  pub marks_refused : (go_left_rule s ≡ refused_by 10 s) × (make_match_rule s ≡ refused_by 10 s) × (go_right_rule s ≡ refused_by 10 s)
  unfolding mark_rule
  marks_refused = (rw has_none, rw has_none, rw has_none)

  pub pop_refused : pop_rule s ≡ refused_by 10 s
  unfolding pop_rule
  pop_refused = rw has_none

-- "push .. on a stack of 32 levels"
pub push_refused : (s : ActionStack) → 32 ≤ s.levels → push_rule s ≡ refused_by 10 s
unfolding push_rule
push_refused s h = rw (le-leb 32 s.levels h)

pub is_empty_refused : (s : ActionStack) → 32 < s.levels → is_empty_rule s ≡ refused_by 10 s
unfolding is_empty_rule
is_empty_refused s h = rw (lt-leb s.levels 32 h)
