-- What holds on any words, whatever they hold: each writer of the rule writes to slots below the
-- count alone.
use mathlib.Core.Path.{◌≡◌, refl, ◌∙◌}
use mathlib.Core.Bool.{Bool, true}
use mathlib.Core.List.{List}
use Prim.Native.Nat.{ℕ, zero, suc, ◌<◌, ◌≤◌}
use native.Mathlib.Omega.{arith}
use lib.ListN.{length}
use lib.Dec.{eqb}
use Rattle.words.specs.Ix.{on_link}
use Rattle.words.specs.Nodes.{word, put, kid, par, put_kid, put_par, swap, fix, put_node_lem}
use Rattle.words.proofs.Nodes.{length_put, word_put_slot, length_fix, word_fix_slot, length_swap, word_swap_slot, length_put_node, word_put_node_slot}
use Rattle.words.specs.declared.interval.Interval.{Interval}
use Rattle.words.specs.declared.node.Entry.{Entry}
use Rattle.words.specs.declared.node.Field.{Field}
use Rattle.words.specs.declared.node.Field.TheVariants.{Child, Parent}
use Rattle.bitvec.specs.Colours.{red, paint}
use Rattle.bitvec.proofs.Bytes.{length_set_bit, bit_at_other}
use Rattle.tree_edit.specs.Links.{adopt, set_child_lem, redirected, redirect, replaced, fix_up}
use Rattle.tree_edit.specs.Rotations.{rotate, rotate_2, rotate_4}
use Rattle.tree_edit.proofs.Links.{by_link}

-- the words X come from W by writes to slots below n
abbrev pub Low : ℕ → List ℕ → List ℕ → Type 0
Low n W X = (length X ≡ length W) × ((g : Field) (a : ℕ) → n ≤ a → word X g a ≡ word W g a)

module _ (n : ℕ) where
  pub low_refl : (W : List ℕ) → Low n W W
  low_refl W = (refl, λ g a h. refl)

  pub low_trans : (W X Y : List ℕ) → Low n W X → Low n X Y → Low n W Y
  low_trans W X Y p q = (q.0 ∙ p.0, λ g a h. q.1 g a h ∙ p.1 g a h)

  pub low_put : (W : List ℕ) (f : Field) (s v : ℕ) → s < n → Low n W (put W f s v)
  low_put W f s v h = (length_put W f s v, λ g a u. word_put_slot W f s v g a (omega arith))

  -- a write that is made where a link leads to a slot
  pub low_link : (W : List ℕ) (k : ℕ) (f : ℕ → List ℕ) → (k < n → Low n W (f k)) → Low n W (on_link n k f W)
  low_link W k f h = by_link n k (λ X. Low n W X) f W h (λ u. low_refl W)

  pub low_adopt : (W : List ℕ) (c p : ℕ) → Low n W (adopt n W c p)
  unfolding adopt
  low_adopt W c p = low_link W c (λ s. put_par W s p) (low_put W Parent c p)

  low_set_child : (W : List ℕ) (p c : ℕ) (b : Bool) → p < n → Low n W (set_child_lem n W p c b)
  unfolding set_child_lem
  low_set_child W p c b h = low_trans W (adopt n W c p) _ (low_adopt W c p) (low_put (adopt n W c p) (Child b) p c h)

  pub low_redirect : (W : List ℕ) (g z v : ℕ) → Low n W (redirect n W g z v)
  unfolding redirect redirected
  low_redirect W g z v = low_link W g (λ s. put_kid W (eqb (kid W true s) z) s v) (low_put W (Child (eqb (kid W true g) z)) g v)

  low_replaced : (W : List ℕ) (old new : ℕ) → new < n → Low n W (replaced n W old new)
  unfolding replaced
  low_replaced W old new h =
      let X : List ℕ = redirect n W (par W old) old new in
      low_trans W X (put_par X new (par W old)) (low_redirect W (par W old) old new) (low_put X Parent new (par W old) h)

  pub low_fix : (W : List ℕ) (s : ℕ) → s < n → Low n W (fix n W s)
  low_fix W s h = (length_fix n W s, λ g a u. word_fix_slot n W s g a (omega arith))

  pub low_fix_up : (height : ℕ) (W : List ℕ) (k : ℕ) → Low n W (fix_up n height W k)
  unfolding fix_up
  low_fix_up zero W k = low_refl W
  low_fix_up (suc height) W k =
      low_link W k _ (λ h. low_trans W (fix n W k) (fix_up n height (fix n W k) (par W k)) (low_fix W k h) (low_fix_up height (fix n W k) (par W k)))

  pub low_swap : (W : List ℕ) (i j : ℕ) → i < n → j < n → Low n W (swap W i j)
  low_swap W i j p q = (length_swap W i j, λ g a u. word_swap_slot W i j g a (omega arith) (omega arith))

  pub low_put_node : (W : List ℕ) (s : ℕ) (e : Entry) (h : Interval) (left right up : ℕ) → s < n → Low n W (put_node_lem W s e h left right up)
  low_put_node W s e h left right up q = (length_put_node W s e h left right up, λ g a u. word_put_node_slot W s e h left right up g a (omega arith))

  -- three writes in a row
  pub low_three : (W X Y Z : List ℕ) → Low n W X → Low n X Y → Low n Y Z → Low n W Z
  low_three W X Y Z p q r = low_trans W X Z p (low_trans X Y Z q r)

  module _ (W : List ℕ) (b : Bool) (P S : ℕ) (lp : P < n) (ls : S < n) where
    pub low_rotate : Low n W (rotate n W b P S)
    unfolding rotate
    low_rotate = low_three W _ _ _ (low_replaced W P S ls) (low_set_child _ P _ _ lp) (low_set_child _ S _ _ ls)

    pub low_rotate_2 : Low n W (rotate_2 n W b P S)
    unfolding rotate_2
    low_rotate_2 = low_three W _ _ _ (low_replaced W P S ls) (low_set_child _ S _ _ ls) (low_set_child _ P _ _ lp)

    pub low_rotate_4 : (c : ℕ) → c < n → Low n W (rotate_4 n W b P S c)
    unfolding rotate_4
    low_rotate_4 c lc =
        low_three W _ _ _ (low_set_child W S _ _ ls) (low_set_child _ c _ _ lc) (low_set_child _ P _ _ lp)

  -- the colours D come from C by writes to bits below n
  abbrev pub LowColours : List ℕ → List ℕ → Type 0
  LowColours C D = (length D ≡ length C) × ((a : ℕ) → n ≤ a → red D a ≡ red C a)

  pub low_colours_refl : (C : List ℕ) → LowColours C C
  low_colours_refl C = (refl, λ a h. refl)

  pub low_paint : (C D : List ℕ) (s : ℕ) (v : Bool) → s < n → LowColours C D → LowColours C (paint D s v)
  low_paint C D s v h p = (length_set_bit D s v ∙ p.0, λ a u. bit_at_other D s v a (omega arith) ∙ p.1 a u)
