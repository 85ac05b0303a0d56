-- What a call did to a stack, and a choice by the state of a level: the words of the table in
-- proofs/Table.
-- Letters: a entered (for 00), b left (for 01), c returned (for 10), d right (for 11), v state,
--   j level, k level, s stack before, t told (what the call answers)
use Rattle.std.specs.Prelude.{◌≡◌, ◌≢◌, Bool, true, false, cond, ℕ, eqb}
use Rattle.stack.specs.States.{entered, was_left, returned, was_right, state_at_lem}
use Rattle.stack.specs.Calls.{Told}
use Rattle.stack.specs.declared.ActionStack.{ActionStack}

-- "Stack states, first bit then last: 00 entered, 01 was left, 10 returned, 11 was right"
abbrev pub state : (first last : Bool) → ℕ
state false false = entered
state false true = was_left
state true false = returned
state true true = was_right

-- by the state v: the first for 00 entered, the second for 01 was left, the third for 10 returned,
-- the fourth for 11 was right
abbrev pub by_state_lem : {A : Type 0} → (entered left returned right : A) (state : ℕ) → A
by_state_lem a b c d v = cond (eqb v entered) a (cond (eqb v was_left) b (cond (eqb v returned) c d))

-- the call t on the stack s was not refused and tested nothing; the stack has so many levels after
-- it, the state v at level j, and at every other level the state that was there
pub record Writes (s : ActionStack) (levels j v : ℕ) (t : Told) : Type 0 where
  pub done : t.no ≡ 0
  pub quiet : t.yes ≡ false
  pub leaves : t.stack.levels ≡ levels
  pub there : state_at_lem t.stack.bits j ≡ v
  pub elsewhere : (k : ℕ) → k ≢ j → state_at_lem t.stack.bits k ≡ state_at_lem s.bits k

-- "A refusal returns its number, the map or cursor as given": here the stack; nothing was tested
abbrev pub refused_by : (number : ℕ) (stack : ActionStack) → Told
refused_by number s = record { no = number; yes = false; stack = s }
