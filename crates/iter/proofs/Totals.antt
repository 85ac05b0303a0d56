-- However many steps are taken, and whatever the words are, a walk enters no more nodes than a tree
-- of 32 levels has ways down.
use mathlib.Core.Path.{◌≡◌, refl, ap, ◌∙◌}
use mathlib.Core.Bool.{Bool, true, false, cond, ◌&&◌}
use mathlib.Core.List.{List, []}
use Prim.Native.Nat.{ℕ, zero, suc, ◌+◌, ◌-◌, ◌*◌, ◌^◌, ◌<◌, ◌≤◌}
use native.Mathlib.Omega.{arith}
use lib.Dec.{eqb, ltb}
use lib.Pow.{pow_pos, pow_mono}
use borrow.Author.Tests.{lt-ltb, le-ltb, ltb-true, eqb-true}
use Rattle.words.specs.Nodes.{par}
use Rattle.words.specs.Ix.{U}
use Rattle.stack.specs.States.{state_at_lem, put_state_lem, top, marked, pushed, popped}
use Rattle.stack.proofs.Levels.{state_put_same, state_put_other}
use Rattle.iter.specs.Cursors.{stack_of, up_to, ended}
use Rattle.iter.specs.Walk.{Rules, side, deeper, mark, down, move, enters, hits, counts, ending, hitting, seek, fuel, step}
use Rattle.iter.specs.Drains.{more, drain}
use Rattle.iter.specs.Places.{Placed}
use Rattle.iter.specs.declared.Cursor.{Cursor}
use Rattle.iter.proofs.Moves.{deeper_room, move_placed, stepped}

-- how many nodes can be entered from a level on, by its state; the level's own node is among them
-- in state 00
unfoldable weigh : ℕ → ℕ → ℕ
weigh k v = cond (eqb v 0) (2 * 2 ^ (31 - k) - 1) (cond (eqb v 3) 0 (2 ^ (31 - k) - 1))

-- and from the first so many levels on
unfoldable low : ℕ → ℕ → ℕ
low zero x = 0
low (suc k) x = low k x + weigh k (state_at_lem x k)

weigh_is : (k : ℕ) → (weigh k 0 ≡ 2 * 2 ^ (31 - k) - 1) × (weigh k 1 ≡ 2 ^ (31 - k) - 1) × (weigh k 2 ≡ 2 ^ (31 - k) - 1) × (weigh k 3 ≡ 0)
unfolding weigh
weigh_is k = (refl, refl, refl, refl)

twice : (k : ℕ) → 2 ^ suc k ≡ 2 * 2 ^ k
twice k = omega arith

-- what a new level has is what its side had
weigh_next : (k : ℕ) → k < 31 → weigh (k + 1) 0 ≡ 2 ^ (31 - k) - 1
weigh_next k h =
    let u : 31 - k ≡ suc (31 - (k + 1)) = omega arith in
    (weigh_is (k + 1)).0 ∙ rw (u, twice (31 - (k + 1)))

weigh_most : (k v : ℕ) → weigh k v ≤ 4294967296
unfolding weigh
weigh_most k v = go (eqb v 0) (eqb v 3) (pow_mono {i = 31 - k} {j = 31} (omega arith))
  where
    go : (a b : Bool) → 2 ^ (31 - k) ≤ 2147483648 → cond a (2 * 2 ^ (31 - k) - 1) (cond b 0 (2 ^ (31 - k) - 1)) ≤ 4294967296
    go true b h = omega arith
    go false true h = omega arith
    go false false h = omega arith

low_most : (k x : ℕ) → low k x ≤ k * 4294967296
unfolding low
low_most zero x = omega arith
low_most (suc k) x = omega (arith, low_most k x, weigh_most k (state_at_lem x k))

low_put : (k x j v : ℕ) → v < 4 → k ≤ j → low k (put_state_lem x j v) ≡ low k x
unfolding low
low_put zero x j v l h = refl
low_put (suc k) x j v l h =
    let z : k ≡ j → ⊥ = λ e. omega arith in
    rw (low_put k x j v l (omega arith), state_put_other x j k v l z)

low_top : (m x : ℕ) → 1 ≤ m → low m x ≡ low (m - 1) x + weigh (m - 1) (state_at_lem x (m - 1))
unfolding low
low_top zero x h = absurd (omega arith)
low_top (suc m) x h = let u : suc m - 1 ≡ m = omega arith in rw u

low_more : (m x : ℕ) → low (m + 1) x ≡ low m x + weigh m (state_at_lem x m)
low_more m x = let u : m + 1 - 1 ≡ m = omega arith in rw u at (low_top (m + 1) x (omega arith))

abbrev ahead : Cursor → ℕ
ahead c = low c.levels c.bits

-- one move from a cursor with a top level
module _ (W : List ℕ) (Q : Rules) (c : Cursor) (some : 1 ≤ c.levels) (few : c.levels ≤ 32) where
  ahead_mark : (v : ℕ) → v < 4 → ahead (mark v c) ≡ low (c.levels - 1) c.bits + weigh (c.levels - 1) v
  unfolding mark marked
  ahead_mark v l =
      low_top c.levels (put_state_lem c.bits (c.levels - 1) v) some
      ∙ rw (low_put (c.levels - 1) c.bits (c.levels - 1) v l (omega arith), state_put_same c.bits (c.levels - 1) v l)

  ahead_down : (b : Bool) → ahead (down W b c) ≡ low (c.levels - 1) c.bits + weigh (c.levels - 1) (side b) + weigh c.levels 0
  unfolding down marked pushed
  ahead_down b = go (side b) (small b)
    where
      small : (b : Bool) → side b < 4
      small true = omega arith
      small false = omega arith

      go : (v : ℕ) → v < 4 → low (c.levels + 1) (put_state_lem (put_state_lem c.bits (c.levels - 1) v) c.levels 0)
          ≡ low (c.levels - 1) c.bits + weigh (c.levels - 1) v + weigh c.levels 0
      go v l =
          low_more c.levels (put_state_lem (put_state_lem c.bits (c.levels - 1) v) c.levels 0)
          ∙ rw (
            low_put c.levels (put_state_lem c.bits (c.levels - 1) v) c.levels 0 (omega arith) (omega arith),
            state_put_same (put_state_lem c.bits (c.levels - 1) v) c.levels 0 (omega arith),
            low_top c.levels (put_state_lem c.bits (c.levels - 1) v) some,
            low_put (c.levels - 1) c.bits (c.levels - 1) v l (omega arith),
            state_put_same c.bits (c.levels - 1) v l,
          )

  ahead_up : (p : ℕ) → ahead (up_to p c) ≡ low (c.levels - 1) c.bits
  unfolding up_to popped
  ahead_up p = low_put (c.levels - 1) c.bits (c.levels - 1) 0 (omega arith) (omega arith)

  ahead_own : ahead c ≡ low (c.levels - 1) c.bits + weigh (c.levels - 1) (top (stack_of c))
  unfolding top
  ahead_own = low_top c.levels c.bits some

  new_level : c.levels < 32 → weigh c.levels 0 ≡ 2 ^ (31 - (c.levels - 1)) - 1
  new_level h =
      let u : c.levels ≡ c.levels - 1 + 1 = omega arith in
      ap (λ (m : ℕ). weigh m 0) u ∙ weigh_next (c.levels - 1) (omega arith)

  ahead_move : ahead (move W Q c) + cond (eqb (top (stack_of c)) 0) 1 0 ≤ ahead c
  unfolding move
  ahead_move =
      rw ahead_own
      (go (top (stack_of c)) (eqb (top (stack_of c)) 0) (eqb (top (stack_of c)) 2) (eqb (top (stack_of c)) 1) (deeper Q true c) (deeper Q false c)
      refl refl refl (deeper_room Q true c (deeper Q true c) refl) (deeper_room Q false c (deeper Q false c) refl))
    where
      go : (v : ℕ) (a b d e f : Bool) → eqb v 0 ≡ a → eqb v 2 ≡ b → eqb v 1 ≡ d → (e ≡ true → c.levels < 32) → (f ≡ true → c.levels < 32)
          → ahead (cond a (cond e (down W true c) (mark 2 c)) (cond b (mark 1 c) (cond (d && f) (down W false c) (up_to (par W c.slot) c)))) + cond a 1 0
          ≤ low (c.levels - 1) c.bits + weigh (c.levels - 1) v
      go v true b d true f i j l x y =
          let z : v ≡ 0 = eqb-true v 0 i in
          rw (z, ahead_down true) (omega (arith, pow_pos (31 - (c.levels - 1)), weigh_is (c.levels - 1), new_level (x refl)))
      go v true b d false f i j l x y =
          let z : v ≡ 0 = eqb-true v 0 i in
          rw (z, ahead_mark 2 (omega arith)) (omega (arith, pow_pos (31 - (c.levels - 1)), weigh_is (c.levels - 1)))
      go v false true d e f i j l x y =
          let z : v ≡ 2 = eqb-true v 2 j in
          rw (z, ahead_mark 1 (omega arith)) (omega (arith, weigh_is (c.levels - 1)))
      go v false false true e true i j l x y =
          let z : v ≡ 1 = eqb-true v 1 l in
          rw (z, ahead_down false) (omega (arith, weigh_is (c.levels - 1), new_level (y refl)))
      go v false false true e false i j l x y = rw (ahead_up (par W c.slot)) (omega arith)
      go v false false false e f i j l x y = rw (ahead_up (par W c.slot)) (omega arith)

-- a cursor at no live slot has nothing ahead
abbrev live : ℕ → Cursor → ℕ
live n c = cond (ltb c.slot n) (ahead c) 0

live_most : (n : ℕ) (c : Cursor) → live n c ≤ ahead c
live_most n c = go (ltb c.slot n)
  where
    go : (b : Bool) → cond b (ahead c) 0 ≤ ahead c
    go true = omega arith
    go false = omega arith

module _ (W : List ℕ) (n : ℕ) (Q : Rules) (small : n ≤ 65535) where
  -- what is counted at a place, and what is ahead after a move from it
  one_move : (c : Cursor) → c.slot < n → Placed n c → (live n (move W Q c) + counts n c ≤ live n c)
  unfolding enters
  one_move c h p =
      rw (lt-ltb c.slot n h) (omega (arith, live_most n (move W Q c), ahead_move W Q c (p h).0 (p h).1))

  counts_most : (c : Cursor) → Placed n c → counts n c ≤ live n c
  unfolding enters
  counts_most c p = go (ltb c.slot n) refl
    where
      go : (t : Bool) → ltb c.slot n ≡ t → counts n c ≤ live n c
      go true i = omega (arith, one_move c (ltb-true c.slot n i) p)
      go false i = rw i (omega arith)

  end_none : live n ended ≡ 0
  end_none = rw (le-ltb U n (omega arith))

  seek_most : (f e : ℕ) (c : Cursor) → Placed n c → (seek W n Q f e c).entered + live n (seek W n Q f e c).next + counts n c ≤ e + live n c
  unfolding seek
  seek_most zero e c p = rw end_none (omega (arith, counts_most c p))
  seek_most (suc f) e c p =
      go (ltb c.slot n) refl (hits n Q (move W Q c)) (λ h. seek_most f (e + counts n (move W Q c)) (move W Q c) (move_placed W Q n c small (p h) (move W Q c) refl))
    where
      go : (t : Bool) → ltb c.slot n ≡ t → (b : Bool)
          → (c.slot < n → (seek W n Q f (e + counts n (move W Q c)) (move W Q c)).entered
          + live n (seek W n Q f (e + counts n (move W Q c)) (move W Q c)).next + counts n (move W Q c) ≤ e + counts n (move W Q c) + live n (move W Q c))
          → (cond t (cond b (hitting (move W Q c) e) (seek W n Q f (e + counts n (move W Q c)) (move W Q c))) (ending e)).entered
          + live n (cond t (cond b (hitting (move W Q c) e) (seek W n Q f (e + counts n (move W Q c)) (move W Q c))) (ending e)).next + counts n c
          ≤ e + live n c
      go false i b r = rw end_none (omega (arith, counts_most c p))
      go true i true r = omega (arith, one_move c (ltb-true c.slot n i) p)
      go true i false r = omega (arith, one_move c (ltb-true c.slot n i) p, r (ltb-true c.slot n i))

  step_most : (c : Cursor) → Placed n c → (step W n Q c).entered + live n (step W n Q c).next ≤ live n c
  unfolding step
  step_most c p = omega (arith, seek_most (fuel n) (counts n c) c p)

  drain_ahead : (limit : ℕ) (c : Cursor) → Placed n c → (drain W n Q limit c).entered ≤ live n c
  unfolding drain
  drain_ahead zero c p = omega arith
  drain_ahead (suc limit) c p = go (ltb (step W n Q c).slot n) (drain_ahead limit (step W n Q c).next (stepped W n Q small c p))
    where
      go : (t : Bool) → (drain W n Q limit (step W n Q c).next).entered ≤ live n (step W n Q c).next
          → (cond t (more (step W n Q c).slot (step W n Q c).entered (drain W n Q limit (step W n Q c).next))
          (record { slots = []; next = (step W n Q c).next; entered = (step W n Q c).entered })).entered ≤ live n c
      go true r = omega (arith, r, step_most c p)
      go false r = omega (arith, step_most c p)

  -- the sum of a drain fits a number
  pub drain_total : (limit : ℕ) (c : Cursor) → Placed n c → (drain W n Q limit c).entered < 18446744073709551616
  drain_total limit c p = go (ltb c.slot n) refl (drain_ahead limit c p)
    where
      go : (t : Bool) → ltb c.slot n ≡ t → (drain W n Q limit c).entered ≤ cond t (ahead c) 0 → (drain W n Q limit c).entered < 18446744073709551616
      go true i h = omega (arith, h, low_most c.levels c.bits, p (ltb-true c.slot n i))
      go false i h = omega (arith, h)
