-- The form test tells the forms of a cursor apart: fresh, ended, and exactly the held cursors of
-- the tree.
use mathlib.Core.Path.{◌≡◌, refl, sym, ap, ◌∙◌}
use mathlib.Core.Logic.{◌↔◌}
use mathlib.Core.Bool.{Bool, true, false, cond, ◌&&◌, ◌||◌, true≢false}
use mathlib.Core.List.{List, [], ◌∷◌}
use Prim.Native.Nat.{ℕ, zero, suc, ◌+◌, ◌-◌, ◌*◌, ◌/◌, ◌%◌, ◌^◌, ◌<◌, ◌≤◌}
use native.Mathlib.Omega.{arith}
use native.Mathlib.Nat.{mod-lt, div-add-mod, zero-div}
use lib.ListN.{length}
use lib.Pow.{mod-pow-add}
use lib.Dec.{eqb, ltb, leb}
use borrow.Author.Tests.{ltb-true, lt-ltb, leb-true, le-leb, eqb-true, eq-eqb}
use Rattle.words.specs.Ix.{U}
use Rattle.words.specs.Nodes.{kid, par}
use Rattle.stack.specs.States.{state_at_lem}
use Rattle.stack.proofs.Levels.{four, four_two, over}
use Rattle.tree.specs.Tree.{Tree, leaf, node, height, Shape}
use Rattle.tree.specs.Zipper.{bin, Frame, frame, plug}
use Rattle.iter.specs.Cursors.{ended, fresh}
use Rattle.iter.specs.Walk.{side}
use Rattle.iter.specs.Forms.{same, on_side, formed, held_form, form_of}
use Rattle.iter.specs.declared.Cursor.{Cursor}
use Rattle.iter.specs.declared.Form.{Form}
use Rattle.iter.specs.declared.Form.TheVariants as form
use Rattle.iter_laws.specs.Place.{pack, at, held, sides, Held}
use Rattle.iter.proofs.Bools.{and_left, and_right, and_false}
use Rattle.iter_laws.proofs.Ways.{fits}
use Rattle.iter_laws.proofs.Walks.{focus}
use Rattle.iter_laws.proofs.Places.{height_plug}

-- a number below level j + 1, by its state there and the part below
digits : (x j : ℕ) → x % 4 ^ suc j ≡ state_at_lem x j * 4 ^ j + x % 4 ^ j
unfolding state_at_lem
digits x j =
    let e : 2 * suc j ≡ 2 + 2 * j = omega arith in
    rw (four_two (suc j), four_two j, e) (mod-pow-add x 2 (2 * j))

digit : (x j q r : ℕ) → r < 4 ^ j → x % 4 ^ suc j ≡ q * 4 ^ j + r → (state_at_lem x j ≡ q) × (x % 4 ^ j ≡ r)
digit x j q r h e =
    let f : state_at_lem x j * 4 ^ j + x % 4 ^ j ≡ q * 4 ^ j + r = sym (digits x j) ∙ e in
    let i : x % 4 ^ j < 4 ^ j = mod-lt x (four j).1 in (
      sym (over (state_at_lem x j) (x % 4 ^ j) (4 ^ j) i).0 ∙ ap (λ (z : ℕ). z / 4 ^ j) f ∙ (over q r (4 ^ j) h).0,
      sym (over (state_at_lem x j) (x % 4 ^ j) (4 ^ j) i).1 ∙ ap (λ (z : ℕ). z % 4 ^ j) f ∙ (over q r (4 ^ j) h).1,
    )

or_cases : {X : Type 0} (a b : Bool) → a || b ≡ true → (a ≡ true → X) → (b ≡ true → X) → X
or_cases true b e x y = x refl
or_cases false b e x y = y e

-- the three words of a cursor
same_sound : (s l b : ℕ) (c : Cursor) → same s l b c ≡ true → c ≡ record { slot = s; levels = l; bits = b }
same_sound s l b c e =
    let f : eqb c.levels l && eqb c.bits b ≡ true = and_right (eqb c.slot s) (eqb c.levels l && eqb c.bits b) e in
    let x : c.slot ≡ s = eqb-true c.slot s (and_left (eqb c.slot s) (eqb c.levels l && eqb c.bits b) e) in
    let y : c.levels ≡ l = eqb-true c.levels l (and_left (eqb c.levels l) (eqb c.bits b) f) in
    let z : c.bits ≡ b = eqb-true c.bits b (and_right (eqb c.levels l) (eqb c.bits b) f) in
    λ i. record { slot = x i; levels = y i; bits = z i }

same_complete : (s l b : ℕ) (c : Cursor) → c ≡ record { slot = s; levels = l; bits = b } → same s l b c ≡ true
same_complete s l b c e = rw (e, eq-eqb s s refl, eq-eqb l l refl, eq-eqb b b refl)

levels_apart : (k : ℕ) (c : Cursor) → c ≡ ended → same k 1 0 c ≡ false
levels_apart k c e = rw e (and_false (eqb U k))

cursor_is : (c : Cursor) (l b : ℕ) → c.levels ≡ l → c.bits ≡ b → c ≡ record { slot = c.slot; levels = l; bits = b }
cursor_is c l b e f = rw (← e, ← f)

-- the three tests, by the form that they give
abbrev named_type : Bool → Bool → Bool → Form → Type 0
named_type a b d form.Fresh = a ≡ true
named_type a b d form.Ended = b ≡ true
named_type a b d form.Held = d ≡ true
named_type a b d form.Bad = Unit {0}

named : (a b d : Bool) (f : Form) → cond a form.Fresh (cond b form.Ended (cond d form.Held form.Bad)) ≡ f → named_type a b d f
named true b d f e = rw (← e) refl
named false true d f e = rw (← e) refl
named false false true f e = rw (← e) refl
named false false false f e = rw (← e) tt

abbrev good : Form → Bool
good form.Fresh = true
good form.Ended = true
good form.Held = true
good form.Bad = false

bad_not : (f : Form) → good f ≡ true → f ≡ form.Bad → ⊥
bad_not f g e = true≢false (sym g ∙ ap good e)

module _ (W : List ℕ) (n : ℕ) (small : n ≤ 65535) (p k : ℕ) (t : Tree) (shape : Shape W n p k t) where
  abbrev Found : ℕ → ℕ → ℕ → Type 0 → Type 0
  Found bits j s X = (way : List Frame) (l r : Tree) → plug way (node l s r) ≡ t → length (sides way) ≡ j → bits % 4 ^ j ≡ pack (sides way) → X

  -- down one side
  child : {X : Type 0} (bits j s q : ℕ) (b : Bool) (way : List Frame) (u far : Tree) → plug way (bin b u q far) ≡ t → length (sides way) ≡ j
      → bits % 4 ^ j ≡ pack (sides way) → state_at_lem bits j ≡ side b → kid W b q ≡ s → s < n → Shape W n q (kid W b q) u → Found bits (suc j) s X → X
  child bits j s q b way leaf far e m d f i h g x = absurd (omega arith)
  child bits j s q b way (node y a z) far e m d f i h g x =
      let c : a ≡ s = sym g.here ∙ i in
      x (frame b q far ∷ way) y z (rw c at e) (rw m) (rw (digits bits j, f, d, m))

  climbs : {X : Type 0} (bits j s : ℕ) → s < n → formed W n k bits j s ≡ true → Found bits j s X → X
  unfolding formed on_side
  climbs {X} bits zero s h e x = go t shape refl
    where
      f : s ≡ k
      f = eqb-true s k e

      go : (u : Tree) → Shape W n p k u → u ≡ t → X
      go leaf g i = absurd (omega (arith, f))
      go (node l a r) g i = let c : a ≡ s = sym g.here ∙ sym f in x [] l r (rw c at i) refl (omega arith)
  climbs bits (suc j) s h e x =
      let q : ℕ = par W s in
      let y : Bool = eqb (state_at_lem bits j) 2 && eqb (kid W true q) s in
      let z : Bool = eqb (state_at_lem bits j) 3 && eqb (kid W false q) s in
      let c : Bool = formed W n k bits j q in
      let f : (y || z) && c ≡ true = and_right (ltb q n) ((y || z) && c) e in
      climbs bits j q (ltb-true q n (and_left (ltb q n) ((y || z) && c) e)) (and_right (y || z) c f)
      (λ way l r e m d. focus W n p k way (node l q r) (rw e shape) (λ v w g o.
      or_cases y z (and_left (y || z) c f)
      (λ i. child bits j s q true way l r e m d
      (eqb-true (state_at_lem bits j) 2 (and_left (eqb (state_at_lem bits j) 2) (eqb (kid W true q) s) i))
      (eqb-true (kid W true q) s (and_right (eqb (state_at_lem bits j) 2) (eqb (kid W true q) s) i)) h g.left x)
      (λ i. child bits j s q false way r l e m d
      (eqb-true (state_at_lem bits j) 3 (and_left (eqb (state_at_lem bits j) 3) (eqb (kid W false q) s) i))
      (eqb-true (kid W false q) s (and_right (eqb (state_at_lem bits j) 3) (eqb (kid W false q) s) i)) h g.right x)))

  -- a held cursor has bits
  bits_apart : (c : Cursor) (s l : ℕ) → held_form W n k c ≡ true → same s l 0 c ≡ false
  unfolding held_form
  bits_apart c s l e = go (eqb c.bits 0) refl
    where
      j : ℕ
      j = c.levels - 1

      rest : Bool
      rest = eqb (c.bits / 4 ^ j) 1 && formed W n k c.bits j c.slot

      state : c.bits / 4 ^ j ≡ 1
      state =
          eqb-true (c.bits / 4 ^ j) 1 (and_left (eqb (c.bits / 4 ^ j) 1) (formed W n k c.bits j c.slot)
          (and_right (leb c.levels 32) rest (and_right (leb 1 c.levels) (leb c.levels 32 && rest)
          (and_right (ltb c.slot n) (leb 1 c.levels && (leb c.levels 32 && rest)) e))))

      go : (b : Bool) → eqb c.bits 0 ≡ b → eqb c.slot s && (eqb c.levels l && b) ≡ false
      go true i = let z : 0 / 4 ^ j ≡ 1 = rw (eqb-true c.bits 0 i) at state in absurd (omega (arith, zero-div (4 ^ j)))
      go false i = rw (and_false (eqb c.levels l)) (and_false (eqb c.slot s))

  -- what the test says yes to is held
  form_sound : (c : Cursor) → held_form W n k c ≡ true → Held t c
  unfolding held_form at
  form_sound c e =
      let j : ℕ = c.levels - 1 in
      let A : Bool = ltb c.slot n in
      let B : Bool = leb 1 c.levels in
      let G : Bool = leb c.levels 32 in
      let D : Bool = eqb (c.bits / 4 ^ j) 1 in
      let F : Bool = formed W n k c.bits j c.slot in
      let e₁ : B && (G && (D && F)) ≡ true = and_right A (B && (G && (D && F))) e in
      let e₂ : G && (D && F) ≡ true = and_right B (G && (D && F)) e₁ in
      let e₃ : D && F ≡ true = and_right G (D && F) e₂ in
      let live : c.slot < n = ltb-true c.slot n (and_left A (B && (G && (D && F))) e) in
      let some : 1 ≤ c.levels = leb-true 1 c.levels (and_left B (G && (D && F)) e₁) in
      let state : c.bits / 4 ^ j ≡ 1 = eqb-true (c.bits / 4 ^ j) 1 (and_left D F e₃) in
      climbs c.bits j c.slot live (and_right D F e₃) (λ way l r f m d.
      let bits : c.bits ≡ 1 * 4 ^ length (sides way) + pack (sides way) = sym (div-add-mod c.bits (4 ^ j)) ∙ rw (state, d, m) (omega arith) in
      record { way = way; left = l; slot = c.slot; right = r; there = f; is = cursor_is c (suc (length (sides way))) (1 * 4 ^ length (sides way) + pack (sides way)) (omega arith) bits })

  -- the states of a way, in bits that have them below
  way_formed : (way : List Frame) (l : Tree) (s : ℕ) (r : Tree) (bits : ℕ) → plug way (node l s r) ≡ t
      → bits % 4 ^ length (sides way) ≡ pack (sides way) → formed W n k bits (length (sides way)) s ≡ true
  unfolding formed on_side
  way_formed [] l s r bits e d = let g : Shape W n p k (node l s r) = rw (← e) at shape in eq-eqb s k (sym g.here)
  way_formed (frame true q far ∷ way) l s r bits e d =
      let (f, m) = digit bits (length (sides way)) 2 (pack (sides way)) (fits (sides way)) d in
      focus W n p k way (node (node l s r) q far) (rw e shape) (λ v w g o.
      rw (g.left.up, lt-ltb q n g.live, f, eq-eqb (kid W true q) s g.left.here) (way_formed way (node l s r) q far bits e m))
  way_formed (frame false q far ∷ way) l s r bits e d =
      let (f, m) = digit bits (length (sides way)) 3 (pack (sides way)) (fits (sides way)) d in
      focus W n p k way (node far q (node l s r)) (rw e shape) (λ v w g o.
      rw (g.right.up, lt-ltb q n g.live, f, eq-eqb (kid W false q) s g.right.here) (way_formed way far q (node l s r) bits e m))

  -- and every held cursor is said yes to
  module _ (low : height t ≤ 32) where
    form_complete : (c : Cursor) → Held t c → held_form W n k c ≡ true
    unfolding held_form at
    form_complete c h = rw h.is (go h.way h.left h.slot h.right h.there)
      where
        go : (way : List Frame) (l : Tree) (s : ℕ) (r : Tree) → plug way (node l s r) ≡ t → held_form W n k (held s (sides way)) ≡ true
        go way l s r e =
            let j : ℕ = length (sides way) in
            let m : height (plug way (node l s r)) ≤ 32 = rw e low in
            let b : suc j - 1 ≡ j = omega arith in
            focus W n p k way (node l s r) (rw e shape) (λ v w g o.
            rw (
              lt-ltb s n g.live,
              le-leb 1 (suc j) (omega arith),
              le-leb (suc j) 32 (omega (arith, height_plug way (node l s r))),
              b,
              (over 1 (pack (sides way)) (4 ^ j) (fits (sides way))).0,
            )
            (way_formed way l s r (1 * 4 ^ j + pack (sides way)) e (over 1 (pack (sides way)) (4 ^ j) (fits (sides way))).1))

    -- the form of a cursor
    pub fresh_form : (c : Cursor) → (form_of W n k c ≡ form.Fresh) ↔ (c ≡ fresh k)
    unfolding form_of
    fresh_form c = (
      λ e. same_sound k 1 0 c (named (same k 1 0 c) (same U 0 0 c) (held_form W n k c) form.Fresh e),
      λ e. rw (same_complete k 1 0 c e),
    )

    pub ended_form : (c : Cursor) → (form_of W n k c ≡ form.Ended) ↔ (c ≡ ended)
    unfolding form_of
    ended_form c = (
      λ e. same_sound U 0 0 c (named (same k 1 0 c) (same U 0 0 c) (held_form W n k c) form.Ended e),
      λ e. rw (same_complete U 0 0 c e, levels_apart k c e),
    )

    pub held_form_lem : (c : Cursor) → (form_of W n k c ≡ form.Held) ↔ Held t c
    unfolding form_of
    held_form_lem c = (
      λ e. form_sound c (named (same k 1 0 c) (same U 0 0 c) (held_form W n k c) form.Held e),
      λ h. let e : held_form W n k c ≡ true = form_complete c h in rw (bits_apart c k 1 e, bits_apart c U 0 e, e),
    )

    -- refusal 7: "cursor has no form below"
    pub bad_form : (c : Cursor) → form_of W n k c ≡ form.Bad → (c ≡ fresh k → ⊥) × (c ≡ ended → ⊥) × (Held t c → ⊥)
    bad_form c e = (
      λ i. bad_not form.Fresh refl (sym ((fresh_form c).1 i) ∙ e),
      λ i. bad_not form.Ended refl (sym ((ended_form c).1 i) ∙ e),
      λ i. bad_not form.Held refl (sym ((held_form_lem c).1 i) ∙ e),
    )
