-- The code of the walk against its rule: one move, and the moves of a step.
use mathlib.Core.Path.{◌≡◌, refl, sym, ap, ◌∙◌}
use mathlib.Core.Bool.{Bool, true, false, cond, ◌&&◌}
use mathlib.Core.List.{List, []}
use Prim.Native.Nat.{ℕ, zero, suc, ◌+◌, ◌-◌, ◌^◌, ◌<◌, ◌≤◌}
use native.Mathlib.Omega.{arith}
use native.Mathlib.Numerals.{add-one}
use lib.Dec.{eqb, ltb}
use borrow.Author.Tests.{lt-ltb, le-ltb, ltb-true, eqb-false, eq-eqb, ne_eqb}
use Rattle.words.specs.Ix.{U}
use Rattle.words.specs.Nodes.{kid, par}
use Rattle.stack.specs.States.{was_left, returned, state_at_lem, put_state_lem, top, marked, pushed, popped}
use Rattle.stack.proofs.Levels.{four, put_above, put_low, cleared_low, state_put_same}
use Rattle.iter.specs.Cursors.{stack_of, up_to}
use Rattle.iter.specs.Walk.{Rules, side, deeper, mark, down, move, hits, counts, Answer, ending, hitting, seek, fuel, step}
use Rattle.iter.specs.Places.{Levelled, Placed, Known, at}
use Rattle.iter.specs.Exact.{exact}
use Rattle.iter.specs.Limits.{limited, tested}
use Rattle.iter.specs.Answers.{answer}
use Rattle.iter.specs.declared.Cursor.{Cursor}
use Rattle.words.specs.declared.interval.Interval.{Interval}
use Rattle.iter.specs.declared.limits.Limits.{Limits}
use Rattle.iter.specs.declared.rules.Tests.{Tests}
use Rattle.iter.specs.declared.rules.Tests.TheVariants.{Within, Equal}
use Rattle.iter.specs.declared.walk.Place.{Place}
use Rattle.iter.specs.declared.seek.Step.{Step}
use Rattle.iter.specs.declared.seek.Step.TheVariants.{Hit}
use Rattle.iter.proofs.Bools.{and_left}
use Rattle.iter.proofs.Steps.{hits_live}

-- where the walk goes down, the stack takes one more level
module _ (Q : Rules) (b : Bool) (c : Cursor) (r : Bool) (e : r ≡ deeper Q b c) where
  pub deeper_room : r ≡ true → c.levels < 32
  unfolding deeper
  deeper_room t = ltb-true c.levels 32 (and_left (ltb c.levels 32) (Q.go b c.slot) (sym e ∙ t))

-- a cursor with the state of its top level, after the bits were changed
module _ (c : Cursor) where
  pub mark_at : (v b : ℕ) → v < 4 → b ≡ put_state_lem c.bits (c.levels - 1) v
      → ◌≡◌ {A = Place} (record { cursor = record { slot = c.slot; levels = c.levels; bits = b }; state = v }) (at (mark v c))
  unfolding mark marked top
  mark_at v b h e = rw (e, state_put_same c.bits (c.levels - 1) v h)

  pub down_at : (W : List ℕ) (s : Bool) (k v b : ℕ) → k ≡ kid W s c.slot → v ≡ side s → v < 4 → b ≡ put_state_lem c.bits (c.levels - 1) v
      → 1 ≤ c.levels → c.bits < 4 ^ c.levels
      → ◌≡◌ {A = Place} (record { cursor = record { slot = k; levels = c.levels + 1; bits = b }; state = 0 }) (at (down W s c))
  unfolding down marked pushed top
  down_at W s k v b f e l g i h =
      let x : ℕ = put_state_lem c.bits (c.levels - 1) (side s) in
      let low : x < 4 ^ c.levels = put_low c.bits (c.levels - 1) (side s) c.levels h (omega arith) (rw e at l) in
      let z : put_state_lem x c.levels 0 ≡ x = put_above x c.levels low in
      let u : c.levels + 1 - 1 ≡ c.levels = omega arith in
      let o : state_at_lem x (c.levels + 1 - 1) ≡ 0 = rw (u, ← z) (state_put_same x c.levels 0 (omega arith)) in
      rw (f, g, e, z, o)

  pub up_last : (p b : ℕ) → c.levels - 1 ≡ 0 → 1 ≤ c.levels → b ≡ put_state_lem c.bits (c.levels - 1) 0
      → ◌≡◌ {A = Place} (record { cursor = record { slot = U; levels = c.levels - 1; bits = b }; state = 0 }) (at (up_to p c))
  unfolding up_to popped top
  up_last p b h i e =
      let o : c.levels ≡ 1 = omega arith in
      let q : state_at_lem (put_state_lem c.bits (c.levels - 1) 0) (c.levels - 1 - 1) ≡ 0 = rw o (state_put_same c.bits 0 0 (omega arith)) in
      rw (e, q, eq-eqb c.levels 1 o)

  pub up_on : (p k b t : ℕ) → (c.levels - 1 ≡ 0 → ⊥) → k ≡ p → b ≡ put_state_lem c.bits (c.levels - 1) 0 → t ≡ state_at_lem b (c.levels - 1 - 1)
      → ◌≡◌ {A = Place} (record { cursor = record { slot = k; levels = c.levels - 1; bits = b }; state = t }) (at (up_to p c))
  unfolding up_to popped top
  up_on p k b t h f e g = let z : c.levels ≡ 1 → ⊥ = λ o. h (omega (arith, o)) in rw (g, e, f, ne_eqb c.levels 1 z)

at_cond : (r : Place) (b : Bool) (x y : Cursor) → r ≡ cond b (at x) (at y) → r ≡ at (cond b x y)
at_cond r true x y p = p
at_cond r false x y p = p

-- one move, by the state of the top level
module _ (W : List ℕ) (Q : Rules) (c : Cursor) (r : Place) (t : ℕ) (e : t ≡ top (stack_of c)) where
  pub move_entered : (g : Bool) → t ≡ 0 → g ≡ deeper Q true c → r ≡ cond g (at (down W true c)) (at (mark was_left c)) → r ≡ at (move W Q c)
  unfolding move
  move_entered g h d p = rw (sym e ∙ h, ← d) (at_cond r g (down W true c) (mark was_left c) p)

  pub move_left : t ≡ 2 → r ≡ at (mark returned c) → r ≡ at (move W Q c)
  unfolding move
  move_left h p = rw (sym e ∙ h) p

  pub move_returned : (g : Bool) → t ≡ 1 → g ≡ deeper Q false c → r ≡ cond g (at (down W false c)) (at (up_to (par W c.slot) c)) → r ≡ at (move W Q c)
  unfolding move
  move_returned g h d p = rw (sym e ∙ h, ← d) (at_cond r g (down W false c) (up_to (par W c.slot) c) p)

  pub move_right : (t ≡ 0 → ⊥) → (t ≡ 2 → ⊥) → (t ≡ 1 → ⊥) → r ≡ at (up_to (par W c.slot) c) → r ≡ at (move W Q c)
  unfolding move
  move_right h i j p = rw (← e, ne_eqb t 0 h, ne_eqb t 2 i, ne_eqb t 1 j) p

side_low : (b : Bool) → side b < 4
side_low true = omega arith
side_low false = omega arith

-- a walk from a live slot keeps what it needs of its cursor
module _ (W : List ℕ) (Q : Rules) (n : ℕ) (c : Cursor) (small : n ≤ 65535) (fit : Levelled c) where
  mark_placed : (v : ℕ) → v < 4 → Placed n (mark v c)
  unfolding mark marked
  mark_placed v l h = (fit.0, fit.1, put_low c.bits (c.levels - 1) v c.levels fit.2 (omega (arith, fit.0)) l)

  down_placed : (b : Bool) → c.levels < 32 → Placed n (down W b c)
  unfolding down marked pushed
  down_placed b l h =
      let x : ℕ = put_state_lem c.bits (c.levels - 1) (side b) in
      let i : x < 4 ^ c.levels = put_low c.bits (c.levels - 1) (side b) c.levels fit.2 (omega (arith, fit.0)) (side_low b) in
      (omega arith, omega arith, rw (put_above x c.levels i, add-one c.levels) (omega (arith, four c.levels, i)))

  up_placed : (p : ℕ) → Placed n (up_to p c)
  unfolding up_to popped
  up_placed p h = go (eqb c.levels 1) refl h
    where
      go : (t : Bool) → eqb c.levels 1 ≡ t → cond t U p < n → (1 ≤ c.levels - 1) × (c.levels - 1 ≤ 32) × (put_state_lem c.bits (c.levels - 1) 0 < 4 ^ (c.levels - 1))
      go true e i = absurd (omega arith)
      go false e i =
          let z : c.levels ≡ 1 → ⊥ = eqb-false c.levels 1 e in
          let u : suc (c.levels - 1) ≡ c.levels = omega (arith, fit.0) in
          (omega (arith, fit.0), omega (arith, fit.1), cleared_low c.bits (c.levels - 1) (rw u fit.2))

  moved_placed : Placed n (move W Q c)
  unfolding move
  moved_placed =
      go (eqb (top (stack_of c)) 0) (deeper Q true c) (eqb (top (stack_of c)) 2) (eqb (top (stack_of c)) 1) (deeper Q false c)
      (deeper_room Q true c (deeper Q true c) refl) (deeper_room Q false c (deeper Q false c) refl)
    where
      go : (a b d e f : Bool) → (b ≡ true → c.levels < 32) → (f ≡ true → c.levels < 32)
          → Placed n (cond a (cond b (down W true c) (mark was_left c)) (cond d (mark returned c) (cond (e && f) (down W false c) (up_to (par W c.slot) c))))
      go true true d e f x y = down_placed true (x refl)
      go true false d e f x y = mark_placed was_left (omega arith)
      go false b true e f x y = mark_placed returned (omega arith)
      go false b false true true x y = down_placed false (y refl)
      go false b false true false x y = up_placed (par W c.slot)
      go false b false false f x y = up_placed (par W c.slot)

  pub move_placed : (d : Cursor) → d ≡ move W Q c → Placed n d
  move_placed d e = rw e moved_placed

  pub place_placed : (p : Place) → p ≡ at (move W Q c) → Placed n p.cursor
  place_placed p e = move_placed p.cursor (ap (λ (q : Place). q.cursor) e)

pub place_known : (W : List ℕ) (Q : Rules) (n : ℕ) (c : Cursor) (p : Place) → p ≡ at (move W Q c) → Known n p
place_known W Q n c p e h = rw e

-- a hit is live, and the end is not
pub hit_told : (n : ℕ) (Q : Rules) (d : Cursor) (b : Bool) → b ≡ hits n Q d → b ≡ true → true ≡ ltb d.slot n
hit_told n Q d b e t = sym (lt-ltb d.slot n (hits_live [] n Q d (sym e ∙ t)))

pub end_told : (n : ℕ) → n ≤ 65535 → false ≡ ltb U n
end_told n h = sym (le-ltb U n (omega arith))

-- the moves of a step: S is what the step answers
module _ (W : List ℕ) (n : ℕ) (Q : Rules) (f e : ℕ) (c : Cursor) (S : Answer) (s : S ≡ seek W n Q f e c) where
  pub seek_out : n ≤ c.slot → ending e ≡ S
  unfolding seek
  seek_out h = sym (s ∙ go f)
    where
      go : (g : ℕ) → seek W n Q g e c ≡ ending e
      go zero = refl
      go (suc g) = rw (le-ltb c.slot n h)

  pub seek_none : f ≤ 0 → ending e ≡ S
  unfolding seek
  seek_none h = sym (s ∙ go f h)
    where
      go : (g : ℕ) → g ≤ 0 → seek W n Q g e c ≡ ending e
      go zero h = refl
      go (suc g) h = absurd (omega arith)

  module _ (p : Place) (b : Bool) (more : 0 < f) (h : c.slot < n) (m : p ≡ at (move W Q c)) (t : b ≡ hits n Q p.cursor) where
    turn : S ≡ cond b (hitting p.cursor e) (seek W n Q (f - 1) (e + counts n p.cursor) p.cursor)
    unfolding seek
    turn = s ∙ go f more
      where
        go : (g : ℕ) → 0 < g → seek W n Q g e c ≡ cond b (hitting p.cursor e) (seek W n Q (g - 1) (e + counts n p.cursor) p.cursor)
        go zero z = absurd (omega arith)
        go (suc g) z =
            let u : suc g - 1 ≡ g = omega arith in
            let o : p.cursor ≡ move W Q c = ap (λ (q : Place). q.cursor) m in
            rw (u, lt-ltb c.slot n h, ← o, ← t)

    pub seek_hit : b ≡ true → hitting p.cursor e ≡ S
    seek_hit z = sym (turn ∙ rw z)

    pub seek_on : (x g : ℕ) → b ≡ false → x ≡ counts n p.cursor → g ≡ f - 1 → S ≡ seek W n Q g (e + x) p.cursor
    seek_on x g z y j = turn ∙ rw (z, y, j)

-- a step, by what is asked for: d is its cursor again, and e what its first state counts
module _ (W : List ℕ) (n e : ℕ) (t : Tests) (c d : Cursor) (A : Answer) (i : d ≡ c) (j : e ≡ counts n d) where
  pub step_within : (l : Limits) → t ≡ Within l → A ≡ seek W n (limited W n l) (fuel n) e d → A ≡ step W n (tested W n t) c
  unfolding step tested
  step_within l k p = rw (k, ← i, ← j) p

  pub step_equal : (x : Interval) → t ≡ Equal x → A ≡ seek W n (exact W n x) (fuel n) e d → A ≡ step W n (tested W n t) c
  unfolding step tested
  step_equal x k p = rw (k, ← i, ← j) p

-- the cursor that a step hands back is fit for the next one
module _ (W : List ℕ) (n : ℕ) (Q : Rules) (small : n ≤ 65535) where
  seek_placed : (f e : ℕ) (c : Cursor) → Placed n c → Placed n (seek W n Q f e c).next
  unfolding seek
  seek_placed zero e c p = λ h. absurd (omega arith)
  seek_placed (suc f) e c p =
      let d : Cursor = move W Q c in
      go (ltb c.slot n) refl (λ h. move_placed W Q n c small (p h) d refl) (seek_placed f (e + counts n d) d)
    where
      go : (t : Bool) → ltb c.slot n ≡ t → (c.slot < n → Placed n (move W Q c))
          → (Placed n (move W Q c) → Placed n (seek W n Q f (e + counts n (move W Q c)) (move W Q c)).next)
          → Placed n (cond t (cond (hits n Q (move W Q c)) (hitting (move W Q c) e) (seek W n Q f (e + counts n (move W Q c)) (move W Q c))) (ending e)).next
      go false i m r = λ h. absurd (omega arith)
      go true i m r = choose (hits n Q (move W Q c)) (m (ltb-true c.slot n i)) (r (m (ltb-true c.slot n i)))
        where
          choose : (b : Bool) → Placed n (move W Q c) → Placed n (seek W n Q f (e + counts n (move W Q c)) (move W Q c)).next
              → Placed n (cond b (hitting (move W Q c) e) (seek W n Q f (e + counts n (move W Q c)) (move W Q c))).next
          choose true x y = x
          choose false x y = y

  pub stepped : (c : Cursor) → Placed n c → Placed n (step W n Q c).next
  unfolding step
  stepped c p = seek_placed (fuel n) (counts n c) c p

  pub step_placed : (c d : Cursor) (e : ℕ) (r : Step) → answer r ≡ step W n Q c → r ≡ Hit d e → Placed n c → Placed n d
  step_placed c d e r s q p =
      let z : hitting d e ≡ step W n Q c = rw q at s in
      rw (ap (λ (a : Answer). a.next) z) (stepped c p)
