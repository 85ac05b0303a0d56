-- The code of the cursor's forms against their rule.
use mathlib.Core.Path.{◌≡◌, refl, sym, ◌∙◌}
use mathlib.Core.Bool.{Bool, true, false, cond, ◌&&◌}
use mathlib.Core.List.{List}
use Prim.Native.Nat.{ℕ, zero, suc, ◌+◌, ◌-◌, ◌*◌, ◌/◌, ◌^◌, ◌<◌, ◌≤◌}
use native.Mathlib.Omega.{arith}
use native.Mathlib.Nat.{lt-div-mul-add}
use lib.Dec.{eqb, ltb, leb}
use borrow.Author.Tests.{lt-ltb, le-ltb, le-leb, lt-leb, leb-true, eqb-true}
use Rattle.words.specs.Ix.{U}
use Rattle.words.specs.Nodes.{par}
use Rattle.stack.specs.States.{state_at_lem}
use Rattle.stack.proofs.Levels.{four}
use Rattle.iter.specs.Forms.{same, on_side, formed, held_form, form_of}
use Rattle.iter.specs.Places.{Levelled, Placed}
use Rattle.iter.specs.declared.Cursor.{Cursor}
use Rattle.iter.specs.declared.Form.{Form}
use Rattle.iter.specs.declared.Form.TheVariants.{Fresh, Held, Ended, Bad}
use Rattle.iter.proofs.Bools.{and_left, and_right, and_false}

-- the way up from a slot
module _ (W : List ℕ) (n k bits : ℕ) where
  pub way_start : (j s : ℕ) → j ≡ 0 → eqb s k ≡ formed W n k bits j s
  unfolding formed
  way_start j s e = rw e

  module _ (j s p : ℕ) (z : j ≡ 0 → ⊥) (e : p ≡ par W s) where
    pub way_out : n ≤ p → false ≡ formed W n k bits j s
    unfolding formed
    way_out h = go j z
      where
        go : (g : ℕ) → (g ≡ 0 → ⊥) → false ≡ formed W n k bits g s
        go zero z = absurd (z refl)
        go (suc g) z = rw (← e, le-ltb p n h)

    module _ (v : ℕ) (b : Bool) (h : p < n) (i : v ≡ state_at_lem bits (j - 1)) (t : b ≡ on_side W v p s) where
      turn : formed W n k bits j s ≡ (b && formed W n k bits (j - 1) p)
      unfolding formed
      turn = go j z i
        where
          go : (g : ℕ) → (g ≡ 0 → ⊥) → v ≡ state_at_lem bits (g - 1) → formed W n k bits g s ≡ (b && formed W n k bits (g - 1) p)
          go zero z i = absurd (z refl)
          go (suc g) z i =
              let u : suc g - 1 ≡ g = omega arith in
              let o : v ≡ state_at_lem bits g = rw u at i in
              rw (u, ← e, lt-ltb p n h, ← o, ← t)

      pub way_on : (r : Bool) → b ≡ true → r ≡ formed W n k bits (j - 1) p → r ≡ formed W n k bits j s
      way_on r q m = m ∙ sym (turn ∙ rw q)

      pub way_off : b ≡ false → false ≡ formed W n k bits j s
      way_off q = sym (turn ∙ rw q)

-- the tests of a held cursor
module _ (l : ℕ) (b : Bool) where
  pub no_levels : (a : Bool) → l ≡ 0 → false ≡ (a && (leb 1 l && b))
  no_levels a e = rw (e, and_false a)

  pub over_levels : (a d : Bool) → 32 < l → false ≡ (a && (b && (leb l 32 && d)))
  over_levels a d h = rw (lt-leb l 32 h, and_false b, and_false a)

  pub well_levelled : (n s : ℕ) (r : Bool) → s < n → (l ≡ 0 → ⊥) → l ≤ 32 → r ≡ b → r ≡ (ltb s n && (leb 1 l && (leb l 32 && b)))
  well_levelled n s r h z i e =
      let o : 1 ≤ l = omega arith in
      rw (lt-ltb s n h, le-leb 1 l o, le-leb l 32 i) e

-- if 10 is all that there is from the top level's bits up, there is no bit above the levels
top_low : (x l : ℕ) → 1 ≤ l → x / 4 ^ (l - 1) ≡ 1 → x < 4 ^ l
top_low x l h e =
    let u : suc (l - 1) ≡ l = omega arith in
    let w : x < x / 4 ^ (l - 1) * 4 ^ (l - 1) + 4 ^ (l - 1) = lt-div-mul-add (four (l - 1)).1 in
    let y : x < 4 ^ suc (l - 1) = omega (arith, four (l - 1), rw e at w) in
    rw u at y

-- a cursor that has a form is fit for a step
module _ (W : List ℕ) (n k : ℕ) (c : Cursor) (f : Form) (e : f ≡ form_of W n k c) where
  pub form_placed : (f ≡ Bad → ⊥) → n ≤ 65535 → Placed n c
  unfolding form_of held_form
  form_placed z small = go (same k 1 0 c) (same U 0 0 c) (held_form W n k c) refl refl refl (λ q. z (e ∙ q))
    where
      go : (a b d : Bool) → same k 1 0 c ≡ a → same U 0 0 c ≡ b → held_form W n k c ≡ d → (cond a Fresh (cond b Ended (cond d Held Bad)) ≡ Bad → ⊥) → Placed n c
      go true b d i j l q =
          λ h. let x : (eqb c.levels 1 && eqb c.bits 0) ≡ true = and_right (eqb c.slot k) (eqb c.levels 1 && eqb c.bits 0) i in
          let o : c.levels ≡ 1 = eqb-true c.levels 1 (and_left (eqb c.levels 1) (eqb c.bits 0) x) in
          let z : c.bits ≡ 0 = eqb-true c.bits 0 (and_right (eqb c.levels 1) (eqb c.bits 0) x) in
          (omega arith, omega arith, rw (o, z) (omega arith))
      go false true d i j l q =
          λ h. let o : c.slot ≡ U = eqb-true c.slot U (and_left (eqb c.slot U) (eqb c.levels 0 && eqb c.bits 0) j) in
          absurd (omega arith)
      go false false true i j l q = λ h. held_levels l
        where
          held_levels : held_form W n k c ≡ true → Levelled c
          held_levels l =
              let rest : Bool = eqb (c.bits / 4 ^ (c.levels - 1)) 1 && formed W n k c.bits (c.levels - 1) c.slot in
              let x : (leb 1 c.levels && (leb c.levels 32 && rest)) ≡ true = and_right (ltb c.slot n) (leb 1 c.levels && (leb c.levels 32 && rest)) l in
              let y : (leb c.levels 32 && rest) ≡ true = and_right (leb 1 c.levels) (leb c.levels 32 && rest) x in
              let some : 1 ≤ c.levels = leb-true 1 c.levels (and_left (leb 1 c.levels) (leb c.levels 32 && rest) x) in
              let top : c.bits / 4 ^ (c.levels - 1) ≡ 1 = eqb-true (c.bits / 4 ^ (c.levels - 1)) 1 (and_left (eqb (c.bits / 4 ^ (c.levels - 1)) 1) (formed W n k c.bits (c.levels - 1) c.slot) (and_right (leb c.levels 32) rest y)) in (
                some,
                leb-true c.levels 32 (and_left (leb c.levels 32) rest y),
                top_low c.bits c.levels some top,
              )
      go false false false i j l q = absurd (q refl)
