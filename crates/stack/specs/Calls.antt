-- What the stack calls answer.
-- Letters: b yes (what a test says), s stack, v state, y refusal
use Rattle.std.specs.Prelude.{Bool, false, Result, Ok, Err, cond, ◌&&◌, ℕ, ◌+◌, ◌%◌, eqb, ltb, leb}
use Rattle.words.specs.Refusals.{refusal_number}
use Rattle.words.specs.declared.refusal.Refusal.{Refusal}
use Rattle.stack.specs.States.{entered, returned, was_right, top, marked, pushed, popped}
use Rattle.stack.specs.declared.ActionStack.{ActionStack}

-- an answer by its numbers: the refusal's, 0 for none; what was tested; the stack
pub record Told : Type 0 where
  pub no : ℕ
  pub yes : Bool
  pub stack : ActionStack

-- a refusal has the stack as it was given
abbrev pub numbers : (given : ActionStack) (answer : Result (Bool × ActionStack) Refusal) → Told
numbers given (Ok (b, s)) = record { no = 0; yes = b; stack = s }
numbers given (Err y) = record { no = refusal_number y; yes = false; stack = given }

abbrev pub done : (yes : Bool) (stack : ActionStack) → Told
done b s = record { no = 0; yes = b; stack = s }

abbrev pub bad_bit : (given : ActionStack) → Told
bad_bit given = record { no = 10; yes = false; stack = given }

-- refusal 10: "pop or state mark of nothing; .. a state test of nothing; any stack call on more
-- than 32 levels"
unfoldable pub some : (stack : ActionStack) → Bool
some s = leb 1 s.levels && leb s.levels 32

-- a state test, by the states that it accepts; a state mark, by the state that it gives
unfoldable pub test_rule : (accepts : ℕ → Bool) (stack : ActionStack) → Told
test_rule accepts s = cond (some s) (done (accepts (top s)) s) (bad_bit s)

unfoldable pub mark_rule : (gives : ℕ → ℕ) (stack : ActionStack) → Told
mark_rule gives s = cond (some s) (done false (marked (gives (top s)) s)) (bad_bit s)

-- `can_go_left`: neither bit is set. `can_match`: the first is not. `can_go_right`: the last is
-- not.
abbrev pub just_entered : (state : ℕ) → Bool
just_entered v = eqb v entered

abbrev pub not_returned : (state : ℕ) → Bool
not_returned v = eqb (v % 2) 0

abbrev pub not_right : (state : ℕ) → Bool
not_right v = ltb v 2

abbrev pub can_go_left_rule : (stack : ActionStack) → Told
can_go_left_rule = test_rule just_entered

abbrev pub can_match_rule : (stack : ActionStack) → Told
can_match_rule = test_rule not_returned

abbrev pub can_go_right_rule : (stack : ActionStack) → Told
can_go_right_rule = test_rule not_right

-- `go_left` sets the last bit and keeps the first; `make_match` gives 10 and `go_right` 11 from
-- every state
abbrev pub went_left : (state : ℕ) → ℕ
went_left v = v % 2 + 2

abbrev pub go_left_rule : (stack : ActionStack) → Told
go_left_rule = mark_rule went_left

abbrev pub make_match_rule : (stack : ActionStack) → Told
make_match_rule = mark_rule (λ _. returned)

abbrev pub go_right_rule : (stack : ActionStack) → Told
go_right_rule = mark_rule (λ _. was_right)

-- "push .. on a stack of 32 levels"
unfoldable pub push_rule : (stack : ActionStack) → Told
push_rule s = cond (leb 32 s.levels) (bad_bit s) (done false (pushed s))

unfoldable pub pop_rule : (stack : ActionStack) → Told
pop_rule s = cond (some s) (done false (popped s)) (bad_bit s)

unfoldable pub is_empty_rule : (stack : ActionStack) → Told
is_empty_rule s = cond (leb s.levels 32) (done (eqb s.levels 0) s) (bad_bit s)

-- "The functions push, pop and the state marks change the stack record itself": by their
-- numbers, the answer of such a call, which tests nothing, and the record after it
abbrev pub lent : (outcome : Result Unit Refusal) (stack : ActionStack) → Told
lent (Ok tt) s = done false s
lent (Err y) s = record { no = refusal_number y; yes = false; stack = s }

-- an answer without its stack
abbrev pub outcome_of : (answer : Result (Bool × ActionStack) Refusal) → Result Unit Refusal
outcome_of (Ok (b, s)) = Ok tt
outcome_of (Err y) = Err y
