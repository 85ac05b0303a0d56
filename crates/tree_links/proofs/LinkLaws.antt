-- What the code learns of a link word, and the walk up to the root, in the form that `search`
-- takes.
use mathlib.Core.Path.{◌≡◌, refl, sym, ap, ◌∙◌}
use mathlib.Core.Bool.{Bool, true, false, cond, true≢false}
use mathlib.Core.List.{List, []}
use Prim.Native.Nat.{ℕ, zero, suc, ◌+◌, ◌-◌, ◌<◌, ◌≤◌}
use native.Mathlib.Omega.{arith}
use lib.Dec.{leb}
use borrow.Author.Tests.{le-leb, lt-leb, leb-true}
use Rattle.words.specs.Layouts.{Held}
use Rattle.words.specs.Ix.{link_of, on_link}
use Rattle.words.specs.Nodes.{kid, par, altered, fix}
use Rattle.std.specs.declared.option.Option.{Option}
use Rattle.std.specs.declared.option.Option.TheVariants.{Some, None}
use Rattle.words.specs.declared.node.Field.TheVariants.{Parent}
use Rattle.words.proofs.Laws.{linked, unlinked, slot_live}
use Rattle.words.proofs.Nodes.{word_fix}
use mir.Val.{bool_byte}
use native.Mathlib.Nat.{add_assoc}
use native.Mathlib.Numerals.{sub-one}
use Rattle.tree_edit.specs.Links.{fix_up, leftmost}
use Rattle.tree_edit.specs.Reach.{Work, differs, changes, both_hulls, up_hulls}
use Rattle.tree_edit.proofs.Reached.{differs_le}

-- the same laws for a word that was read
module _ {A : Type 0} (r : A) (n v w : ℕ) (l : Option ℕ) (f : ℕ → A) (z : A) (p : w ≡ v) (e : l ≡ link_of n w) where
  pub read_linked : (s : ℕ) → l ≡ Some s → r ≡ f s → r ≡ on_link n v f z
  read_linked s q h = rw (← p) (linked r n w s l f z e q h)

  pub read_unlinked : l ≡ None → r ≡ z → r ≡ on_link n v f z
  read_unlinked q h = rw (← p) (unlinked r n w l f z e q h)

-- and for the hulls worked out behind it
module _ (x n v w : ℕ) (l : Option ℕ) (f : ℕ → List Work) (p : w ≡ v) (e : l ≡ link_of n w) where
  pub hulls_linked : (s : ℕ) → l ≡ Some s → x ≡ changes n (f s) → x ≡ changes n (on_link n v f [])
  hulls_linked s q h = h ∙ ap (λ (m : List Work). changes n m) (read_linked (f s) n v w l f [] p e s q refl)

  pub hulls_unlinked : l ≡ None → x ≡ 0 → x ≡ changes n (on_link n v f [])
  hulls_unlinked q h = h ∙ ap (λ (m : List Work). changes n m) (read_unlinked [] n v w l f [] p e q refl)

-- the slot of a link is its word
pub slot_is : (n w s : ℕ) (l : Option ℕ) → l ≡ link_of n w → l ≡ Some s → s ≡ w
unfolding on_link
slot_is n w s l e q = go (leb n w) (linked s n w s l (λ (k : ℕ). k) w e q refl)
  where
    go : (t : Bool) → s ≡ cond t w w → s ≡ w
    go true z = z
    go false z = z

pub nil_is : (n w : ℕ) (l : Option ℕ) → l ≡ link_of n w → l ≡ None → n ≤ w
unfolding on_link
nil_is n w l e q = go (leb n w) refl (unlinked true n w l (λ (k : ℕ). false) true e q refl)
  where
    go : (t : Bool) → leb n w ≡ t → true ≡ cond t true false → n ≤ w
    go true p z = leb-true n w p
    go false p z = absurd (true≢false z)

-- a slot has room in words that keep their length
pub room_after : (narrow : Bool) (n w s a b d : ℕ) (l : Option ℕ) → l ≡ link_of n w → l ≡ Some s → Held narrow n a → b ≡ a → d ≡ b → Held narrow (s + 1) d
room_after narrow n w s a b d l e q h i j = let z : s < n = slot_live n w s l e q in omega arith

-- whether a hull changed, as a number
pub as_number : (n : ℕ) (W : List ℕ) (s : ℕ) (b : Bool) → b ≡ altered n W s → bool_byte b ≡ differs n W s
unfolding differs
as_number n W s b e = rw (← e) (go b)
  where
    go : (t : Bool) → bool_byte t ≡ cond t 1 0
    go true = refl
    go false = refl

-- two hulls, one after the other
module _ (n : ℕ) (W X : List ℕ) (a b i j : ℕ) (e : i ≡ differs n W a) (g : j ≡ differs n X b) where
  pub both_changes : X ≡ fix n W a → i + j ≡ changes n (both_hulls n W a b)
  both_changes f = rw (← e, ← f, ← g) (omega arith)

  pub both_fit : i + j < 18446744073709551616
  both_fit = omega (arith, differs_le n W a, differs_le n X b)

pub both_words : (n : ℕ) (W X Y : List ℕ) (a b : ℕ) → X ≡ fix n W a → Y ≡ fix n X b → Y ≡ fix n (fix n W a) b
both_words n W X Y a b e f = rw (← e) f

-- the walk up
fix_up_step : (n f : ℕ) (W : List ℕ) (s : ℕ) → s < n → fix_up n (suc f) W s ≡ fix_up n f (fix n W s) (par W s)
unfolding fix_up on_link
fix_up_step n f W s h = simp (lt-leb n s h)

fix_up_out : (n f : ℕ) (W : List ℕ) (s : ℕ) → n ≤ s → fix_up n f W s ≡ W
unfolding fix_up on_link
fix_up_out n zero W s h = refl
fix_up_out n (suc f) W s h = simp (le-leb n s h)

fix_up_none : (n f : ℕ) (W : List ℕ) (s : ℕ) → f ≤ 0 → fix_up n f W s ≡ W
unfolding fix_up
fix_up_none n zero W s h = refl
fix_up_none n (suc f) W s h = absurd (omega arith)

up_hulls_step : (n f : ℕ) (W : List ℕ) (s : ℕ) → s < n
    → changes n (up_hulls n (suc f) W s) ≡ differs n W s + changes n (up_hulls n f (fix n W s) (par W s))
unfolding up_hulls on_link
up_hulls_step n f W s h = simp (lt-leb n s h)

up_hulls_out : (n f : ℕ) (W : List ℕ) (s : ℕ) → n ≤ s → up_hulls n f W s ≡ []
unfolding up_hulls on_link
up_hulls_out n zero W s h = refl
up_hulls_out n (suc f) W s h = simp (le-leb n s h)

up_hulls_none : (n f : ℕ) (W : List ℕ) (s : ℕ) → f ≤ 0 → up_hulls n f W s ≡ []
unfolding up_hulls
up_hulls_none n zero W s h = refl
up_hulls_none n (suc f) W s h = absurd (omega arith)

-- a hull more fits
module _ (n : ℕ) (W : List ℕ) (s d k i : ℕ) (e : d ≡ differs n W s) (f : k ≤ i) where
  pub reach_fits : i < 32 → k + d < 18446744073709551616
  reach_fits z = omega (arith, differs_le n W s)

  pub reach_room : k + d ≤ i + 1
  reach_room = omega (arith, differs_le n W s)

-- what is left after i steps of at most m
pub left_over : (m i : ℕ) → i < m → m - i ≡ suc (m - (i + 1))
left_over m i h = omega arith

module _ (n m i : ℕ) (T W : List ℕ) (w : ℕ) (e : T ≡ fix_up n (m - i) W w) where
  pub up_again : (l : Option ℕ) (s : ℕ) (X : List ℕ) (u : ℕ) → l ≡ link_of n w → l ≡ Some s → X ≡ fix n W s → u ≡ par X s → i < m → T ≡ fix_up n (m - (i + 1)) X u
  up_again l s X u q k p h z =
      let j : s ≡ w = slot_is n w s l q k in
      let x : u ≡ par W s = h ∙ ap (λ (Y : List ℕ). par Y s) p ∙ word_fix n W s Parent s refl in
      let y : fix_up n (suc (m - (i + 1))) W s ≡ fix_up n (m - (i + 1)) (fix n W s) (par W s) = fix_up_step n (m - (i + 1)) W s (slot_live n w s l q k) in
      let v : m - i ≡ suc (m - (i + 1)) = left_over m i z in
      e ∙ cc (j, x, y, p, v)

  pub up_stops : (l : Option ℕ) → l ≡ link_of n w → l ≡ None → W ≡ T
  up_stops l q k = sym (e ∙ fix_up_out n (m - i) W w (nil_is n w l q k))

  pub up_ends : m ≤ i → W ≡ T
  up_ends h = sym (e ∙ fix_up_none n (m - i) W w (omega arith))

-- and how many of the hulls changed: k so far
module _ (n m i : ℕ) (W : List ℕ) (w R k : ℕ) (e : R ≡ k + changes n (up_hulls n (m - i) W w)) where
  pub reach_again : (l : Option ℕ) (s : ℕ) (X : List ℕ) (u d : ℕ) → l ≡ link_of n w → l ≡ Some s → d ≡ differs n W s → X ≡ fix n W s → u ≡ par X s → i < m
      → R ≡ k + d + changes n (up_hulls n (m - (i + 1)) X u)
  reach_again l s X u d q j f p h z =
      let y : s ≡ w = slot_is n w s l q j in
      let v : u ≡ par W s = h ∙ ap (λ (Y : List ℕ). par Y s) p ∙ word_fix n W s Parent s refl in
      let x : changes n (up_hulls n (suc (m - (i + 1))) W s) ≡ differs n W s + changes n (up_hulls n (m - (i + 1)) (fix n W s) (par W s)) =
      up_hulls_step n (m - (i + 1)) W s (slot_live n w s l q j) in
      rw (f, p, v) (e ∙ rw (← y, left_over m i z, x, add_assoc))

  pub reach_stops : (l : Option ℕ) → l ≡ link_of n w → l ≡ None → k ≡ R
  reach_stops l q h = let y : changes n (up_hulls n (m - i) W w) ≡ 0 = rw (up_hulls_out n (m - i) W w (nil_is n w l q h)) in omega arith

  pub reach_ends : m ≤ i → k ≡ R
  reach_ends h = let y : changes n (up_hulls n (m - i) W w) ≡ 0 = rw (up_hulls_none n (m - i) W w (omega arith)) in omega arith

-- the leftmost slot
module _ (n : ℕ) (W : List ℕ) (k : ℕ) where
  pub left_low : (h : ℕ) → h ≡ 0 → k ≡ leftmost n h W k
  unfolding leftmost
  left_low zero e = refl
  left_low (suc h) e = absurd (omega arith)

  pub left_ends : (h w : ℕ) (l : Option ℕ) → w ≡ kid W true k → l ≡ link_of n w → l ≡ None → k ≡ leftmost n h W k
  unfolding leftmost on_link
  left_ends zero w l e p q = refl
  left_ends (suc h) w l e p q = rw (← e, le-leb n w (nil_is n w l p q))

  pub left_on : (h w s r : ℕ) (l : Option ℕ) → (h ≡ 0 → ⊥) → w ≡ kid W true k → l ≡ link_of n w → l ≡ Some s → r ≡ leftmost n (h - 1) W s → r ≡ leftmost n h W k
  unfolding leftmost
  left_on zero w s r l z e p q d = absurd (z refl)
  left_on (suc h) w s r l z e p q d = read_linked r n (kid W true k) w l (λ (x : ℕ). leftmost n h W x) k e p s q (rw (sub-one (suc h)) at d)
