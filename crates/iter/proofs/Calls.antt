-- The walk stands on the stack's calls: a move by them alone, as the Rust's `move_to_next` makes
-- it, is the rule's move, and no call of it is refused.
use mathlib.Core.Path.{◌≡◌, refl, sym, ◌∙◌}
use mathlib.Core.Bool.{Bool, true, false, not, cond, ◌&&◌}
use mathlib.Core.List.{List}
use Prim.Native.Nat.{ℕ, zero, suc, ◌-◌, ◌<◌, ◌≤◌}
use native.Mathlib.Omega.{arith}
use lib.Dec.{eqb}
use borrow.Author.Tests.{le-leb, lt-leb, lt-ltb, eqb-true, eqb-false, ne_eqb}
use Rattle.words.specs.Ix.{U}
use Rattle.words.specs.Nodes.{kid, par}
use Rattle.stack.specs.States.{was_left, returned, was_right, top, marked, pushed, popped}
use Rattle.stack.specs.Calls.{done, test_rule, mark_rule, push_rule, pop_rule, is_empty_rule, just_entered, not_returned, not_right, went_left, can_go_left_rule, can_match_rule, can_go_right_rule, go_right_rule}
use Rattle.stack.specs.declared.ActionStack.{ActionStack}
use Rattle.stack.proofs.Table.{has, top_low}
use Rattle.iter.specs.Cursors.{cursor, stack_of, up_to}
use Rattle.iter.specs.Walk.{Rules, side, deeper, mark, down, move, enters, hits}
use Rattle.iter.specs.Calls.{to, having, push_to, pop_to, move_by_calls}
use Rattle.iter.specs.Places.{Live}
use Rattle.iter.specs.declared.Cursor.{Cursor}
use Rattle.iter.proofs.Moves.{deeper_room}

push_to_lem : (k : ℕ) (s : ActionStack) → s.levels < 32 → push_to k s ≡ to (cursor k (pushed s))
unfolding push_rule
push_to_lem k s h = rw (lt-leb 32 s.levels h)

-- a stack of 1 to 32 levels
module _ (s : ActionStack) (one : 1 ≤ s.levels) (few : s.levels ≤ 32) where
  tested : (f : ℕ → Bool) → test_rule f s ≡ done (f (top s)) s
  unfolding test_rule
  tested f = rw (has s one few)

  marks : (f : ℕ → ℕ) → mark_rule f s ≡ done false (marked (f (top s)) s)
  unfolding mark_rule
  marks f = rw (has s one few)

  last : eqb (s.levels - 1) 0 ≡ eqb s.levels 1
  last = go (eqb s.levels 1) refl
    where
      go : (b : Bool) → eqb s.levels 1 ≡ b → eqb (s.levels - 1) 0 ≡ b
      go true e = rw (eqb-true s.levels 1 e)
      go false e = ne_eqb (s.levels - 1) 0 (λ z. eqb-false s.levels 1 e (omega arith))

  pop_to_lem : (k : ℕ) → pop_to k s ≡ to (cursor (cond (eqb s.levels 1) U k) (popped s))
  unfolding pop_rule is_empty_rule popped
  pop_to_lem k = rw (has s one few, le-leb (s.levels - 1) 32 (omega arith), last)

module _ (W : List ℕ) (Q : Rules) (n : ℕ) (c : Cursor) (live : Live n c) where
  abbrev s : ActionStack
  s = stack_of c

  asked : (f : ℕ → Bool) (v : ℕ) → top s ≡ v → test_rule f s ≡ done (f v) s
  asked f v e = tested s live.1 live.2 f ∙ rw e

  gives : (f : ℕ → ℕ) (v : ℕ) → top s ≡ v → mark_rule f s ≡ done false (marked (f v) s)
  gives f v e = marks s live.1 live.2 f ∙ rw e

  -- where the walk goes down, `push` is not refused
  goes_down : (b : Bool) → deeper Q b c ≡ true → push_to (kid W b c.slot) (marked (side b) s) ≡ to (down W b c)
  unfolding down marked
  goes_down b e = push_to_lem (kid W b c.slot) (marked (side b) s) (deeper_room Q b c true (sym e) refl)

  goes_up : pop_to (par W c.slot) s ≡ to (up_to (par W c.slot) c)
  unfolding up_to
  goes_up = pop_to_lem s live.1 live.2 (par W c.slot)

  pub move_by_calls_lem : move_by_calls W Q c ≡ to (move W Q c)
  unfolding move_by_calls move mark
  move_by_calls_lem = go (top s) refl (top_low s)
    where
      left : (b : Bool) → deeper Q true c ≡ b
          → cond b (push_to (kid W true c.slot) (marked was_left s)) (to (cursor c.slot (marked was_left s))) ≡ to (cond b (down W true c) (mark was_left c))
      left true e = goes_down true e
      left false e = refl

      right : (b : Bool) → deeper Q false c ≡ b
          → cond b (having (go_right_rule s) (λ t. push_to (kid W false c.slot) t)) (pop_to (par W c.slot) s) ≡ to (cond b (down W false c) (up_to (par W c.slot) c))
      right true e = rw (marks s live.1 live.2 (λ _. was_right)) (goes_down false e)
      right false e = goes_up

      go : (v : ℕ) → top s ≡ v → v < 4 → move_by_calls W Q c ≡ to (move W Q c)
      go zero e h = rw (asked just_entered 0 e, gives went_left 0 e, e) (left (deeper Q true c) refl)
      go (suc zero) e h = rw (asked just_entered 1 e, asked not_returned 1 e, asked not_right 1 e, e) (right (deeper Q false c) refl)
      go (suc (suc zero)) e h = rw (asked just_entered 2 e, asked not_returned 2 e, gives (λ _. returned) 2 e, e)
      go (suc (suc (suc zero))) e h = rw (asked just_entered 3 e, asked not_returned 3 e, asked not_right 3 e, e) goes_up
      go (suc (suc (suc (suc v)))) e h = absurd (omega arith)

  -- a place counts as entered exactly if `can_go_left` answers true there
  pub entered_by_calls : enters n c ≡ (can_go_left_rule s).yes
  unfolding enters
  entered_by_calls = rw (lt-ltb c.slot n live.0, tested s live.1 live.2 just_entered)

  -- it may be a hit exactly if `make_match` was made and nothing after it: `can_match` answers
  -- false, and `can_go_right` true
  pub hit_by_calls : hits n Q c ≡ (not (can_match_rule s).yes && (can_go_right_rule s).yes && Q.match c.slot)
  unfolding hits
  hit_by_calls = rw (lt-ltb c.slot n live.0, tested s live.1 live.2 not_returned, tested s live.1 live.2 not_right) (go (top s) (top_low s))
    where
      go : (v : ℕ) → v < 4 → (eqb v returned && Q.match c.slot) ≡ (not (not_returned v) && not_right v && Q.match c.slot)
      go zero h = refl
      go (suc zero) h = refl
      go (suc (suc zero)) h = refl
      go (suc (suc (suc zero))) h = refl
      go (suc (suc (suc (suc v)))) h = absurd (omega arith)
