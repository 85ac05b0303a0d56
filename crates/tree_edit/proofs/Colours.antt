-- Colours: one slot made red or black, as a function of the slots and in the bytes.
use mathlib.Core.Path.{◌≡◌, refl, sym, fun_ext, ◌∙◌, ap}
use mathlib.Core.Logic.{◌≢◌}
use mathlib.Core.Bool.{Bool, true, false, cond, not, not-not, false≢true}
use mathlib.Core.List.{List}
use Prim.Native.Nat.{ℕ, ◌*◌, ◌<◌, ◌≤◌}
use native.Mathlib.Omega.{arith}
use lib.ListN.{length}
use lib.Dec.{eqb}
use borrow.Author.Tests.{eqb-true, eqb-false, eq-eqb, ne_eqb}
use Rattle.bitvec.specs.Colours.{red, paint, red_at}
use Rattle.bitvec.proofs.Bytes.{bit_at_same, bit_at_other, length_set_bit}
use Rattle.tree.specs.Tree.{Tree, Shape, leaf, node}
use Rattle.tree.specs.RedBlack.{root_red}
use Rattle.tree_edit.proofs.Links.{by_link, on_slot, on_none}
use Rattle.words.specs.Nodes.{HasBit, HoldsBits}

unfoldable pub with_colour : (ℕ → Bool) → ℕ → Bool → ℕ → Bool
with_colour K s v a = cond (eqb a s) v (K a)

module _ (K : ℕ → Bool) (s : ℕ) (v : Bool) where
  pub with_colour_same : with_colour K s v s ≡ v
  unfolding with_colour
  with_colour_same = rw (eq-eqb s s refl)

  pub with_colour_other : (a : ℕ) → a ≢ s → with_colour K s v a ≡ K a
  unfolding with_colour
  with_colour_other a h = rw (ne_eqb a s h)

  -- a function that says at s what the paint says, and elsewhere what K says
  with_colour_is : (L : ℕ → Bool) → L s ≡ v → ((a : ℕ) → a ≢ s → L a ≡ K a) → L ≡ with_colour K s v
  with_colour_is L e f = fun_ext (λ a. go a (eqb a s) refl)
    where
      go : (a : ℕ) (t : Bool) → eqb a s ≡ t → L a ≡ with_colour K s v a
      go a true q = rw (eqb-true a s q) (e ∙ sym with_colour_same)
      go a false q = f a (eqb-false a s q) ∙ sym (with_colour_other a (eqb-false a s q))

-- in the bytes
pub red_paint : (C : List ℕ) (s : ℕ) (v : Bool) → HasBit C s → red (paint C s v) ≡ with_colour (red C) s v
red_paint C s v h = with_colour_is (red C) s v (red (paint C s v)) (bit_at_same C s v (omega arith)) (bit_at_other C s v)

-- colours made one after the other
module _ (n : ℕ) (C : List ℕ) (bits : HoldsBits C n) where
  pub paint_one : (s : ℕ) (v : Bool) → s < n → HoldsBits (paint C s v) n × (red (paint C s v) ≡ with_colour (red C) s v)
  paint_one s v q = (rw length_set_bit bits, red_paint C s v (omega arith))

pub paint_two : (n : ℕ) (C : List ℕ) (s a : ℕ) (v w : Bool) → HoldsBits C n → s < n → a < n
    → HoldsBits (paint (paint C s v) a w) n × (red (paint (paint C s v) a w) ≡ with_colour (with_colour (red C) s v) a w)
paint_two n C s a v w bits q o =
    let (i, e) = paint_one n C bits s v q in
    let (j, f) = paint_one n (paint C s v) i a w o in
    (j, f ∙ rw e)

pub paint_three : (n : ℕ) (C : List ℕ) (s a d : ℕ) (v w u : Bool) → HoldsBits C n → s < n → a < n → d < n
    → (n ≤ length (paint (paint (paint C s v) a w) d u) * 8) × (red (paint (paint (paint C s v) a w) d u) ≡ with_colour (with_colour (with_colour (red C) s v) a w) d u)
paint_three n C s a d v w u bits q o p =
    let (i, e) = paint_two n C s a v w bits q o in
    let (j, f) = paint_one n (paint (paint C s v) a w) i d u p in
    (j, f ∙ rw e)

-- a link's colour is that of the tree it leads to
pub red_link : (W C : List ℕ) (n : ℕ) → n ≤ 65535 → (p k : ℕ) (t : Tree) → Shape W n p k t → red_at n C k ≡ root_red (red C) t
red_link W C n m p k leaf h = on_none n k (omega arith) (λ s. red C s) false
red_link W C n m p k (node l s r) h = rw h.here (on_slot n s h.live (λ s. red C s) false)

-- a red link leads to a slot
pub red_slot : (n : ℕ) (C : List ℕ) (k : ℕ) → red_at n C k ≡ true → k < n
red_slot n C k = by_link n k (λ v. v ≡ true → k < n) (λ s. red C s) false (λ h e. h) (λ h e. absurd (false≢true e))

-- what a test told of a link's colour
pub red_child : (w a t : Bool) → w ≡ not a → not w ≡ t → a ≡ t
red_child w a t f z = sym (not-not a) ∙ ap not (sym f) ∙ z

pub red_fits : (n : ℕ) (C : List ℕ) (k : ℕ) (w : Bool) → HoldsBits C n → w ≡ not (red_at n C k) → not w ≡ true → HasBit C k
red_fits n C k w h e q = let l : k < n = red_slot n C k (red_child w (red_at n C k) true e q) in omega arith
