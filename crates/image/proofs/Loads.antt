-- The steps of reading, in the form in which the code's proofs ask for them.
use mathlib.Core.Path.{◌≡◌, refl, ◌∙◌}
use mathlib.Core.Bool.{Bool, true, false}
use mathlib.Core.List.{List}
use Prim.Native.Nat.{ℕ, zero, suc, ◌+◌, ◌-◌, ◌<◌, ◌≤◌}
use native.Mathlib.Omega.{arith}
use native.Mathlib.Numerals.{add-one}
use Rattle.words.specs.Layouts.{kid_fits, up_fits_lem}
use Rattle.words.specs.Nodes.{kid, altered, fix, put_node_lem}
use Rattle.words.specs.declared.node.Entry.{Entry}
use Rattle.bitvec.specs.Bits.{set_bit}
use Rattle.tree_edit.proofs.Links.{on_slot, on_none}
use Rattle.image_rule.specs.Judge.{worked}
use Rattle.image_rule.specs.Layout.{count_in_lem, root_in_lem}
use Rattle.image_rule.specs.Stored.{interval_in_lem, entry_in_lem, link_in, LinksFit, red_in_lem, unpacked, painted, loaded_words, loaded_colours}

pub slot_is : (I : List ℕ) (n : ℕ) (W X : List ℕ) (s i j k : ℕ) (e : Entry) → e ≡ entry_in_lem I s → i ≡ link_in I n s 0 → j ≡ link_in I n s 1
    → k ≡ link_in I n s 2 → X ≡ put_node_lem W s e (record { start = e.start; end = e.end }) i j k
    → X ≡ put_node_lem W s (entry_in_lem I s) (interval_in_lem I s) (link_in I n s 0) (link_in I n s 1) (link_in I n s 2)
slot_is I n W X s i j k e a b c d q = q ∙ rw (a, b, c, d) refl

-- the links of a slot, as they were read, fit the layout
module _ (narrow : Bool) (I : List ℕ) (n s v : ℕ) (fit : LinksFit narrow I n) (live : s < n) where
  pub left_fits : v ≡ link_in I n s 0 → kid_fits narrow v ≡ true
  left_fits e = rw e (fit.left s live)

  pub right_fits : v ≡ link_in I n s 1 → kid_fits narrow v ≡ true
  right_fits e = rw e (fit.right s live)

  pub up_fits : v ≡ link_in I n s 2 → up_fits_lem narrow v ≡ true
  up_fits e = rw e (fit.up s live)

pub fit_counted : (narrow : Bool) (I : List ℕ) (n : ℕ) → n ≡ count_in_lem I → LinksFit narrow I (count_in_lem I) → LinksFit narrow I n
fit_counted narrow I n e h = rw e h

module _ (I : List ℕ) (n : ℕ) (W : List ℕ) where
  pub unpack_none : W ≡ unpacked I n 0 W
  unfolding unpacked
  unpack_none = refl

  pub unpack_on : (X Y : List ℕ) (m : ℕ) → X ≡ unpacked I n m W
      → Y ≡ put_node_lem X m (entry_in_lem I m) (interval_in_lem I m) (link_in I n m 0) (link_in I n m 1) (link_in I n m 2) → Y ≡ unpacked I n (m + 1) W
  unfolding unpacked
  unpack_on X Y m e f = rw (add-one m, ← e) f

  pub unpack_end : (X : List ℕ) (m : ℕ) → X ≡ unpacked I n m W → m ≤ n → n ≤ m → X ≡ unpacked I n n W
  unpack_end X m e h k = let q : n ≡ m = omega arith in e ∙ rw q refl

  pub paint_none : W ≡ painted I n 0 W
  unfolding painted
  paint_none = refl

  pub paint_on : (X Y : List ℕ) (m : ℕ) (v : Bool) → X ≡ painted I n m W → v ≡ red_in_lem I n m → Y ≡ set_bit X m v → Y ≡ painted I n (m + 1) W
  unfolding painted
  paint_on X Y m v e g f = rw (add-one m, ← e, ← g) f

  pub paint_end : (X : List ℕ) (m : ℕ) → X ≡ painted I n m W → m ≤ n → n ≤ m → X ≡ painted I n n W
  paint_end X m e h k = let q : n ≡ m = omega arith in e ∙ rw q refl

  -- all of it
  pub load_words : (X Y : List ℕ) (r : ℕ) → n ≡ count_in_lem I → r ≡ root_in_lem I → X ≡ unpacked I n n W → Y ≡ worked n 33 X r
      → Y ≡ loaded_words I (count_in_lem I) (root_in_lem I) W
  unfolding loaded_words
  load_words X Y r a b e f = rw (← a, ← b, ← e) f

  pub load_colours : (X : List ℕ) → n ≡ count_in_lem I → X ≡ painted I n n W → X ≡ loaded_colours I (count_in_lem I) W
  unfolding loaded_colours
  load_colours X a e = rw (← a) e

-- the hulls
module _ (n h : ℕ) (W : List ℕ) (k : ℕ) where
  pub work_dry : h ≡ 0 → W ≡ worked n h W k
  unfolding worked
  work_dry z = rw z refl

  pub work_out : (h ≡ 0 → ⊥) → n ≤ k → W ≡ worked n h W k
  unfolding worked
  work_out z q = go h z
    where
      go : (g : ℕ) → (g ≡ 0 → ⊥) → W ≡ worked n g W k
      go zero y = absurd (y refl)
      go (suc g) y = rw (on_none n k q) refl

  pub work_on : (X Y Z : List ℕ) (i j : ℕ) (b : Bool) → (h ≡ 0 → ⊥) → k < n → i ≡ kid W true k → j ≡ kid W false k
      → X ≡ worked n (h - 1) W i → Y ≡ worked n (h - 1) X j → (b ≡ altered n Y k) × (Z ≡ fix n Y k) → Z ≡ worked n h W k
  unfolding worked
  work_on X Y Z i j b z q a c d e f = f.1 ∙ rw (e, d, a, c) (go h z)
    where
      go : (g : ℕ) → (g ≡ 0 → ⊥) → fix n (worked n (g - 1) (worked n (g - 1) W (kid W true k)) (kid W false k)) k ≡ worked n g W k
      go zero y = absurd (y refl)
      go (suc g) y = let w : suc g - 1 ≡ g = omega arith in rw (w, on_slot n k q) refl
