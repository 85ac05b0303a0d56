-- Where a walk comes to: always to a slot of its tree, with as many levels as its depth.
use mathlib.Core.Path.{◌≡◌, refl, sym, ap, ◌∙◌}
use mathlib.Core.Bool.{Bool, true, false, cond, ◌&&◌}
use mathlib.Core.List.{List, [], ◌∷◌}
use Prim.Native.Nat.{ℕ, zero, suc, ◌+◌, ◌<◌, ◌≤◌}
use native.Mathlib.Omega.{arith}
use lib.ListN.{length}
use lib.Dec.{eqb, ltb}
use borrow.Author.Tests.{le-ltb, ltb-true, eqb-true, ne_eqb}
use Rattle.words.specs.Ix.{U}
use Rattle.words.specs.Nodes.{kid, par}
use Rattle.tree.specs.Tree.{Tree, leaf, node, Shape, height}
use Rattle.tree.specs.Zipper.{bin, Frame, frame, plug}
use Rattle.iter.specs.declared.Cursor.{Cursor}
use Rattle.stack.specs.States.{top}
use Rattle.iter.specs.Cursors.{stack_of, ended, fresh}
use Rattle.iter_laws.specs.Place.{at, sides, Held}
use Rattle.iter.specs.Walk.{Rules, counts, deeper, move, hits, Answer, ending, hitting, seek, fuel, step, after}
use Rattle.iter_laws.proofs.Ways.{back, slot_at, deeper_at, deeper_not, move_left, move_on, move_match, move_right, move_up, move_back, top_at}
use Rattle.iter_laws.proofs.Walks.{Walk, Parent, focus}
use Rattle.iter_laws.proofs.Course.{room}
use Rattle.iter.proofs.Bools.{and_left, and_right}
use Rattle.iter.proofs.Steps.{step_end}

-- a cursor that a walk through a tree comes to: at a slot of it, in some state, or at the end
pub data Spot : Type 0 where
  nowhere : Spot
  spot : List Frame → Tree → ℕ → Tree → ℕ → Spot

abbrev pub cursor_of : Spot → Cursor
cursor_of nowhere = ended
cursor_of (spot c l s r q) = at s q (sides c)

abbrev pub Lies : Tree → Spot → Type 0
Lies t nowhere = Unit {0}
Lies t (spot c l s r q) = (plug c (node l s r) ≡ t) × (q < 4)

pub record Stands (t : Tree) (c : Cursor) : Type 0 where
  pub place : Spot
  pub lies : Lies t place
  pub is : c ≡ cursor_of place

height_bin : (b : Bool) (u : Tree) (a : ℕ) (far : Tree) → suc (height u) ≤ height (bin b u a far)
height_bin true u a far = omega arith
height_bin false u a far = omega arith

pub height_plug : (way : List Frame) (u : Tree) → length (sides way) + height u ≤ height (plug way u)
height_plug [] u = omega arith
height_plug (frame b a far ∷ c) u = omega (arith, height_plug c (bin b u a far), height_bin b u a far)

stands_levels : (t : Tree) (c : Cursor) → Stands t c → c.levels ≤ height t
unfolding at
stands_levels t c h = rw h.is (go h.place h.lies)
  where
    go : (z : Spot) → Lies t z → (cursor_of z).levels ≤ height t
    go nowhere h = omega arith
    go (spot way l s r q) h = rw (← h.0) (omega (arith, height_plug way (node l s r)))

-- where the tree's root has no parent, the parent link is U exactly where the stack becomes empty
top_up : (W : List ℕ) (n p k : ℕ) (t : Tree) → Shape W n p k t → p ≡ U → (c : Cursor) → Stands t c
    → cond (eqb c.levels 1) U (par W c.slot) ≡ par W c.slot
unfolding at
top_up W n p k t shape e c h = rw h.is (go h.place h.lies)
  where
    go : (z : Spot) → Lies t z → cond (eqb (cursor_of z).levels 1) U (par W (cursor_of z).slot) ≡ par W (cursor_of z).slot
    go nowhere x = refl
    go (spot [] l s r b) x = let g : Shape W n p k (node l s r) = rw (← x.0) at shape in sym (g.up ∙ e)
    go (spot (frame a q far ∷ way) l s r b) x = rw (ne_eqb (suc (suc (length (sides way)))) 1 (λ i. omega arith))

module _ (W : List ℕ) (n : ℕ) (Q : Rules) (E : Bool → ℕ → ℕ → Bool) (p k : ℕ) (t : Tree) (w : Walk W n Q E p k t) where
  stands : (z : Spot) → Lies t z → (c : Cursor) → c ≡ cursor_of z → Stands t c
  stands z h c e = record { place = z; lies = h; is = e }

  -- into a child
  into : (s : ℕ) (b : Bool) (way : List Frame) (u far : Tree) → plug way (bin b u s far) ≡ t → Shape W n s (kid W b s) u → kid W b s < n
      → Stands t (at (kid W b s) 0 (b ∷ sides way))
  into s b way leaf far e h q = absurd (omega arith)
  into s b way (node x a y) far e h q = stands (spot (frame b s far ∷ way) x a y 0) (e, omega arith) (at (kid W b s) 0 (b ∷ sides way)) (rw h.here)

  -- to the parent
  out : (q : ℕ) (way : List Frame) (u : Tree) → plug way u ≡ t → Parent way q → Stands t (back q (sides way))
  out q [] u e h = stands nowhere tt ended refl
  out q (frame true a far ∷ c) u e h = stands (spot c u a far 2) (e, omega arith) (at q 2 (sides c)) (rw h)
  out q (frame false a far ∷ c) u e h = stands (spot c far a u 3) (e, omega arith) (at q 3 (sides c)) (rw h)

  module _ (way : List Frame) (l : Tree) (s : ℕ) (r : Tree) (e : plug way (node l s r) ≡ t)
      (i j : ℕ) (h : Shape W n i j (node l s r)) (m : Parent way i) where
    up : Stands t (back (par W s) (sides way))
    up = rw h.up (out i way (node l s r) e m)

    space : (b : Bool) (u : Tree) → Shape W n s (kid W b s) u → Q.go b s ≡ true → height u < height (node l s r) → suc (length (sides way)) < 32
    space b u g q m =
        let d : height (plug way (node l s r)) ≤ 32 = rw e w.low in
        room W n Q w.small w.linked s (kid W b s) u (length (sides way)) g (w.linked b s q) (omega (arith, height_plug way (node l s r)))

    roomy : (b : Bool) (u : Tree) → Shape W n s (kid W b s) u → height u < height (node l s r) → (v : ℕ) (t : Bool) → Q.go b s ≡ t
        → deeper Q b (at s v (sides way)) ≡ Q.go b s
    roomy b u g m v true q = deeper_at Q s v b (sides way) (space b u g q m)
    roomy b u g m v false q = deeper_not Q s v b (sides way) q ∙ sym q

    from_00 : (b : Bool) → Q.go true s ≡ b → Stands t (move W Q (at s 0 (sides way)))
    from_00 true g = rw (move_left W Q s (sides way) (space true l h.left g (omega arith)) g) (into s true way l r e h.left (w.linked true s g))
    from_00 false g = rw (move_on W Q s (sides way) g) (stands (spot way l s r 2) (e, omega arith) (at s 2 (sides way)) refl)

    from_10 : (b : Bool) → Q.go false s ≡ b → Stands t (move W Q (at s 1 (sides way)))
    from_10 true g = rw (move_right W Q s (sides way) (space false r h.right g (omega arith)) g) (into s false way r l e h.right (w.linked false s g))
    from_10 false g = rw (move_up W Q s (sides way) g) up

    from : (q : ℕ) → q < 4 → Stands t (move W Q (at s q (sides way)))
    from zero low = from_00 (Q.go true s) refl
    from (suc zero) low = from_10 (Q.go false s) refl
    from (suc (suc zero)) low = rw (move_match W Q s (sides way)) (stands (spot way l s r 1) (e, omega arith) (at s 1 (sides way)) refl)
    from (suc (suc (suc zero))) low = rw (move_back W Q s (sides way)) up
    from (suc (suc (suc (suc q)))) low = absurd (omega arith)

  moves_on : (c : Cursor) → c.slot < n → Stands t c → Stands t (move W Q c)
  moves_on c q h = rw h.is (go h.place h.lies (rw h.is at q))
    where
      go : (z : Spot) → Lies t z → (cursor_of z).slot < n → Stands t (move W Q (cursor_of z))
      go nowhere x y = absurd (omega arith)
      go (spot way l s r b) x y = focus W n p k way (node l s r) (rw x.0 w.shape) (λ i j g m. from way l s r x.0 i j g m b x.1)

  after_stands : (m : ℕ) (c : Cursor) → Stands t c → Stands t (after W n Q m c)
  unfolding after
  after_stands zero c h = h
  after_stands (suc m) c h = go (λ q. after_stands m (move W Q c) (moves_on c q h)) (ltb c.slot n) refl
    where
      go : (c.slot < n → Stands t (after W n Q m (move W Q c))) → (b : Bool) → ltb c.slot n ≡ b
          → Stands t (cond b (after W n Q m (move W Q c)) c)
      go rec true e = rec (ltb-true c.slot n e)
      go rec false e = h

  -- a hit's cursor is held
  hit_held : (c : Cursor) → hits n Q c ≡ true → Stands t c → Held t c
  unfolding hits
  hit_held c e h = go h.place h.lies h.is
    where
      live : c.slot < n
      live = ltb-true c.slot n (and_left (ltb c.slot n) (eqb (top (stack_of c)) 1 && Q.match c.slot) e)

      state : top (stack_of c) ≡ 1
      state = eqb-true (top (stack_of c)) 1 (and_left (eqb (top (stack_of c)) 1) (Q.match c.slot) (and_right (ltb c.slot n) (eqb (top (stack_of c)) 1 && Q.match c.slot) e))

      go : (z : Spot) → Lies t z → c ≡ cursor_of z → Held t c
      go nowhere x y = let q : U < n = rw y at live in absurd (omega arith)
      go (spot way l s r b) x y =
          let q : b ≡ 1 = sym (top_at s b (sides way) x.1) ∙ ap (λ (z : Cursor). top (stack_of z)) (sym y) ∙ state in
          record { way = way; left = l; slot = s; right = r; there = x.0; is = rw q at y }

  seek_held : (f e : ℕ) (c : Cursor) → Stands t c → (seek W n Q f e c).slot < n
      → Held t (seek W n Q f e c).next × ((seek W n Q f e c).next.slot ≡ (seek W n Q f e c).slot)
  unfolding seek
  seek_held zero e c h = λ q. absurd (omega arith)
  seek_held (suc f) e c h = go (λ i. seek_held f (e + counts n (move W Q c)) (move W Q c) (moves_on c i h)) (ltb c.slot n) (hits n Q (move W Q c)) refl refl
    where
      d : Answer
      d = seek W n Q f (e + counts n (move W Q c)) (move W Q c)

      go : (c.slot < n → d.slot < n → Held t d.next × (d.next.slot ≡ d.slot)) → (i j : Bool) → ltb c.slot n ≡ i → hits n Q (move W Q c) ≡ j
          → (cond i (cond j (hitting (move W Q c) e) d) (ending e)).slot < n
          → Held t (cond i (cond j (hitting (move W Q c) e) d) (ending e)).next
          × ((cond i (cond j (hitting (move W Q c) e) d) (ending e)).next.slot ≡ (cond i (cond j (hitting (move W Q c) e) d) (ending e)).slot)
      go rec true true x y q = (hit_held (move W Q c) y (moves_on c (ltb-true c.slot n x) h), refl)
      go rec true false x y q = rec (ltb-true c.slot n x) q
      go rec false j x y q = absurd (omega arith)

  -- the cursor after a hit is that hit's held form
  pub step_held : (c : Cursor) → Stands t c → (step W n Q c).slot < n → Held t (step W n Q c).next × ((step W n Q c).next.slot ≡ (step W n Q c).slot)
  unfolding step
  step_held c h = seek_held (fuel n) (counts n c) c h

  pub held_stands : (c : Cursor) → Held t c → Stands t c
  held_stands c h = stands (spot h.way h.left h.slot h.right 1) (h.there, omega arith) c h.is

  -- the stack always takes the level that the walk needs: the rules alone decide where it goes
  deeper_is : (c : Cursor) → c.slot < n → Stands t c → (b : Bool) → deeper Q b c ≡ Q.go b c.slot
  deeper_is c q h b = rw h.is (go h.place h.lies (rw h.is at q) b)
    where
      go : (z : Spot) → Lies t z → (cursor_of z).slot < n → (b : Bool) → deeper Q b (cursor_of z) ≡ Q.go b (cursor_of z).slot
      go nowhere x y b = absurd (omega arith)
      go (spot way l s r v) x y true =
          focus W n p k way (node l s r) (rw x.0 w.shape) (λ i j g m.
          roomy way l s r x.0 i j g m true l g.left (omega arith) v (Q.go true s) refl ∙ ap (Q.go true) (sym (slot_at s v (sides way))))
      go (spot way l s r v) x y false =
          focus W n p k way (node l s r) (rw x.0 w.shape) (λ i j g m.
          roomy way l s r x.0 i j g m false r g.right (omega arith) v (Q.go false s) refl ∙ ap (Q.go false) (sym (slot_at s v (sides way))))

  pub stands_room : (c : Cursor) → Stands t c → (m : ℕ) → (after W n Q m c).slot < n → (b : Bool)
      → deeper Q b (after W n Q m c) ≡ Q.go b (after W n Q m c).slot
  stands_room c h m q b = deeper_is (after W n Q m c) q (after_stands m c h) b

  pub stands_low : (c : Cursor) → Stands t c → (m : ℕ) → (after W n Q m c).levels ≤ 32
  stands_low c h m = omega (arith, w.low, stands_levels t (after W n Q m c) (after_stands m c h))

  -- a fresh cursor stands at the tree's root, or is at its end
  root_cases : {X : Type 0} → (Stands t (fresh k) → X) → (k ≡ U → X) → X
  unfolding at
  root_cases {X} x y = go t refl w.shape
    where
      go : (u : Tree) → u ≡ t → Shape W n p k u → X
      go leaf e h = y h
      go (node l s r) e h = x (stands (spot [] l s r 0) (e, omega arith) (fresh k) (rw h.here))

  pub after_end : (m : ℕ) (c : Cursor) → c.slot ≡ U → after W n Q m c ≡ c
  unfolding after
  after_end zero c e = refl
  after_end (suc m) c e = rw (e, le-ltb U n (omega arith))

  pub fresh_low : (m : ℕ) → (after W n Q m (fresh k)).levels ≤ 32
  fresh_low m = root_cases (λ h. stands_low (fresh k) h m) (λ e. rw (after_end m (fresh k) e) (omega arith))

  pub fresh_room : (m : ℕ) → (after W n Q m (fresh k)).slot < n → (b : Bool)
      → deeper Q b (after W n Q m (fresh k)) ≡ Q.go b (after W n Q m (fresh k)).slot
  fresh_room m q b =
      root_cases (λ h. stands_room (fresh k) h m q b)
      (λ i. let z : k < n = rw (after_end m (fresh k) i) at q in absurd (omega arith))

  -- where the tree's root has no parent: the walk may end where the parent link is U, instead of
  -- where the stack becomes empty
  pub stands_top : p ≡ U → (c : Cursor) → Stands t c → (m : ℕ)
      → cond (eqb (after W n Q m c).levels 1) U (par W (after W n Q m c).slot) ≡ par W (after W n Q m c).slot
  stands_top e c h m = top_up W n p k t w.shape e (after W n Q m c) (after_stands m c h)

  pub fresh_top : p ≡ U → (m : ℕ) → (after W n Q m (fresh k)).slot < n
      → cond (eqb (after W n Q m (fresh k)).levels 1) U (par W (after W n Q m (fresh k)).slot) ≡ par W (after W n Q m (fresh k)).slot
  fresh_top e m q =
      root_cases (λ h. stands_top e (fresh k) h m)
      (λ i. let z : k < n = rw (after_end m (fresh k) i) at q in absurd (omega arith))

  pub fresh_held : (step W n Q (fresh k)).slot < n
      → Held t (step W n Q (fresh k)).next × ((step W n Q (fresh k)).next.slot ≡ (step W n Q (fresh k)).slot)
  fresh_held =
      root_cases (λ h. step_held (fresh k) h)
      (λ e q. let z : U < n = rw (step_end W n Q w.small (fresh k) e) at q in absurd (omega arith))
