-- One move of the Rust's `move_to_next`, by the stack's calls alone.
-- Letters: W words, s stack, t told (what a stack call answers) or stack, k slot, Q rules of the
--   lookup, c cursor
use Rattle.std.specs.Prelude.{Bool, true, false, cond, ◌&&◌, List, ℕ, eqb}
use Rattle.words.specs.Ix.{U}
use Rattle.words.specs.Nodes.{kid, par}
use Rattle.stack.specs.Calls.{Told, push_rule, can_go_left_rule, go_left_rule, can_match_rule, make_match_rule, can_go_right_rule, go_right_rule, pop_rule, is_empty_rule}
use Rattle.stack.specs.declared.ActionStack.{ActionStack}
use Rattle.iter.specs.Cursors.{cursor, stack_of}
use Rattle.iter.specs.Walk.{Rules, deeper}
use Rattle.iter.specs.declared.Cursor.{Cursor}

-- the cursor after a move; or the refusal of a stack call, by its number
pub data Moved : Type 0 where
  to : (cursor : Cursor) → Moved
  refused : (number : ℕ) → Moved

-- what a stack call answered, taken apart: what it tested; or the stack after it
abbrev pub asking : (told : Told) (rest : Bool → Moved) → Moved
asking t rest = cond (eqb t.no 0) (rest t.yes) (refused t.no)

abbrev pub having : (told : Told) (rest : ActionStack → Moved) → Moved
having t rest = cond (eqb t.no 0) (rest t.stack) (refused t.no)

-- a level is pushed, and the walk goes to the slot k; or it is popped, and the walk goes to the
-- slot k, to U where the stack is empty then
abbrev pub push_to : (slot : ℕ) (stack : ActionStack) → Moved
push_to k s = having (push_rule s) (λ t. to (cursor k t))

abbrev pub pop_to : (slot : ℕ) (stack : ActionStack) → Moved
pop_to k s = having (pop_rule s) (λ t. asking (is_empty_rule t) (λ empty. to (cursor (cond empty U k) t)))

-- `if stack.can_go_left()`: `go_left`, and if the left rule says so, `push`, and to the left child.
-- `if stack.can_match()`: `make_match`. `if stack.can_go_right() && should_go_right(..)`:
-- `go_right`, `push`, and to the right child; `else`: `pop`, and to the parent. A rule says so only
-- where the stack takes one more level (`deeper`).
unfoldable pub move_by_calls : (words : List ℕ) (rules : Rules) (cursor : Cursor) → Moved
move_by_calls W Q c =
    let s : ActionStack = stack_of c in
    let go_left_lem : Moved = having (go_left_rule s) (λ t. cond (deeper Q true c) (push_to (kid W true c.slot) t) (to (cursor c.slot t))) in
    let make_match_lem : Moved = having (make_match_rule s) (λ t. to (cursor c.slot t)) in
    let go_right_lem : Moved = having (go_right_rule s) (λ t. push_to (kid W false c.slot) t) in
    asking (can_go_left_rule s) (λ left. cond left go_left_lem (
    asking (can_match_rule s) (λ match. cond match make_match_lem (
    asking (can_go_right_rule s) (λ right. cond (right && deeper Q false c) go_right_lem (pop_to (par W c.slot) s))))))
