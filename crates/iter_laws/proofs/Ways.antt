-- Each move, on the cursors of a way; and what each state tells.
use mathlib.Core.Path.{◌≡◌, refl, ap}
use mathlib.Core.Bool.{Bool, true, false}
use mathlib.Core.List.{List, [], ◌∷◌}
use Prim.Native.Nat.{ℕ, zero, suc, ◌+◌, ◌-◌, ◌*◌, ◌^◌, ◌<◌, ◌≤◌}
use native.Mathlib.Omega.{arith}
use native.Mathlib.Numerals.{add-one}
use lib.ListN.{length}
use lib.Dec.{ltb}
use borrow.Author.Tests.{ne_eqb, lt-ltb, le-ltb}
use Rattle.words.specs.Ix.{U}
use Rattle.words.specs.Nodes.{kid, par}
use Rattle.stack.specs.States.{top, marked, pushed, popped}
use Rattle.stack.proofs.Levels.{four, state_is, put_is, put_above}
use Rattle.iter.specs.Cursors.{stack_of, ended, up_to}
use Rattle.iter.specs.Walk.{Rules, side, deeper, mark, down, move, enters, hits}
use Rattle.iter.specs.declared.Cursor.{Cursor}
use Rattle.iter.specs.Lists.{when}
use Rattle.iter_laws.specs.Place.{pack, at, held}
use Rattle.iter.proofs.Events.{enter, found, told}
use Rattle.iter.proofs.Bools.{and_false}

-- the cursor after a subtree below the slot p
abbrev pub back : ℕ → List Bool → Cursor
back p [] = ended
back p (b ∷ bs) = at p (side b) bs

side_low : (b : Bool) → side b < 4
side_low true = omega arith
side_low false = omega arith

pub mul_low : (q w r : ℕ) → q < 4 → r < w → q * w + r < 4 * w
mul_low zero w r h i = omega arith
mul_low (suc zero) w r h i = omega arith
mul_low (suc (suc zero)) w r h i = omega arith
mul_low (suc (suc (suc zero))) w r h i = omega arith
mul_low (suc (suc (suc (suc q)))) w r h i = absurd (omega arith)

-- the states of a way take no more than its levels
pub fits : (bs : List Bool) → pack bs < 4 ^ length bs
fits [] = omega arith
fits (b ∷ bs) = omega (arith, mul_low (side b) (4 ^ length bs) (pack bs) (side_low b) (fits bs), four (length bs))

below : (j : ℕ) → suc j - 1 ≡ j
below j = omega arith

pub slot_at : (s q : ℕ) (bs : List Bool) → (at s q bs).slot ≡ s
unfolding at
slot_at s q bs = refl

pub top_at : (s q : ℕ) (bs : List Bool) → q < 4 → top (stack_of (at s q bs)) ≡ q
unfolding top at
top_at s q bs h = rw (below (length bs)) (state_is q (pack bs) (length bs) h (fits bs))

mark_at : (s q v : ℕ) (bs : List Bool) → q < 4 → mark v (at s q bs) ≡ at s v bs
unfolding mark marked at
mark_at s q v bs h = rw (below (length bs), put_is q (pack bs) (length bs) v h (fits bs))

down_at : (W : List ℕ) (s q : ℕ) (b : Bool) (bs : List Bool) → q < 4 → down W b (at s q bs) ≡ at (kid W b s) 0 (b ∷ bs)
unfolding down pushed marked at
down_at W s q b bs h =
    rw (below (length bs), put_is q (pack bs) (length bs) (side b) h (fits bs), put_above (pack (b ∷ bs)) (suc (length bs)) (fits (b ∷ bs)), add-one)
    (ap (λ (x : ℕ). record { slot = kid W b s; levels = suc (suc (length bs)); bits = x }) (omega arith))

up_at : (s q p : ℕ) (bs : List Bool) → q < 4 → up_to p (at s q bs) ≡ back p bs
unfolding up_to popped at
up_at s q p [] h = rw (put_is q 0 0 0 h (omega arith))
up_at s q p (b ∷ bs) h =
    rw (below (suc (length bs)), put_is q (pack (b ∷ bs)) (suc (length bs)) 0 h (fits (b ∷ bs)), ne_eqb (suc (suc (length bs))) 1 (λ e. omega arith))
    (ap (λ (x : ℕ). record { slot = p; levels = suc (length bs); bits = x }) (omega arith))

-- the walk goes down where its rules say so, if there is a level left
pub deeper_at : (Q : Rules) (s q : ℕ) (b : Bool) (bs : List Bool) → suc (length bs) < 32 → deeper Q b (at s q bs) ≡ Q.go b s
unfolding deeper at
deeper_at Q s q b bs h = rw (lt-ltb (suc (length bs)) 32 h)

pub deeper_not : (Q : Rules) (s q : ℕ) (b : Bool) (bs : List Bool) → Q.go b s ≡ false → deeper Q b (at s q bs) ≡ false
unfolding deeper at
deeper_not Q s q b bs e = rw e (and_false (ltb (suc (length bs)) 32))

-- the six moves
module _ (W : List ℕ) (Q : Rules) (s : ℕ) (bs : List Bool) where
  pub move_left : suc (length bs) < 32 → Q.go true s ≡ true → move W Q (at s 0 bs) ≡ at (kid W true s) 0 (true ∷ bs)
  unfolding move
  move_left h e = rw (top_at s 0 bs (omega arith), deeper_at Q s 0 true bs h, e) (down_at W s 0 true bs (omega arith))

  pub move_on : Q.go true s ≡ false → move W Q (at s 0 bs) ≡ at s 2 bs
  unfolding move
  move_on e = rw (top_at s 0 bs (omega arith), deeper_not Q s 0 true bs e) (mark_at s 0 2 bs (omega arith))

  pub move_match : move W Q (at s 2 bs) ≡ at s 1 bs
  unfolding move
  move_match = rw (top_at s 2 bs (omega arith)) (mark_at s 2 1 bs (omega arith))

  pub move_right : suc (length bs) < 32 → Q.go false s ≡ true → move W Q (at s 1 bs) ≡ at (kid W false s) 0 (false ∷ bs)
  unfolding move
  move_right h e = rw (top_at s 1 bs (omega arith), deeper_at Q s 1 false bs h, e) (down_at W s 1 false bs (omega arith))

  pub move_up : Q.go false s ≡ false → move W Q (at s 1 bs) ≡ back (par W s) bs
  unfolding move at
  move_up e = rw (top_at s 1 bs (omega arith), deeper_not Q s 1 false bs e) (up_at s 1 (par W s) bs (omega arith))

  pub move_back : move W Q (at s 3 bs) ≡ back (par W s) bs
  unfolding move at
  move_back = rw (top_at s 3 bs (omega arith)) (up_at s 3 (par W s) bs (omega arith))

-- what each state tells
module _ (n : ℕ) (Q : Rules) (s : ℕ) (bs : List Bool) where
  pub told_entered : s < n → told n Q (at s 0 bs) ≡ enter s ∷ []
  unfolding told enters
  told_entered h = rw (top_at s 0 bs (omega arith), slot_at, lt-ltb s n h)

  pub told_returned : s < n → told n Q (at s 1 bs) ≡ when (Q.match s) (found (held s bs) ∷ [])
  unfolding told enters hits
  told_returned h = rw (top_at s 1 bs (omega arith), slot_at, lt-ltb s n h)

pub told_side : (n : ℕ) (Q : Rules) (s : ℕ) (b : Bool) (bs : List Bool) → told n Q (at s (side b) bs) ≡ []
unfolding told enters hits
told_side n Q s true bs = rw (top_at s 2 bs (omega arith), and_false)
told_side n Q s false bs = rw (top_at s 3 bs (omega arith), and_false)

pub told_back : (n : ℕ) (Q : Rules) (p : ℕ) (bs : List Bool) → n ≤ 65535 → told n Q (back p bs) ≡ []
unfolding told enters hits
told_back n Q p [] h = rw (le-ltb U n (omega arith))
told_back n Q p (b ∷ bs) h = told_side n Q p b bs
