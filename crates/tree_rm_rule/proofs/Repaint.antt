-- Colours: the five cases with the paint that each of them lays on.
use mathlib.Core.Path.{◌≡◌, ◌∙◌}
use mathlib.Core.Logic.{◌≢◌}
use mathlib.Core.Bool.{Bool, true, false}
use mathlib.Core.List.{List, ◌∷◌}
use Prim.Native.Nat.{ℕ, suc, ◌+◌, ◌≤◌}
use native.Mathlib.Omega.{arith}
use Rattle.tree.specs.Tree.{Tree, hit, occ}
use Rattle.tree.specs.Zipper.{bin, Frame, occs, frame}
use Rattle.tree.specs.RedBlack.{root_red, blacks, RedBlack}
use Rattle.tree.proofs.Slots.{hit_same, hit_zero, occ_bin}
use Rattle.tree_edit.proofs.Colours.{with_colour, with_colour_same, with_colour_other}
use Rattle.tree_edit.proofs.Fits.{Fits, Keeps, keeps, fits_keep}
use Rattle.tree_rm_rule.proofs.Recolour.{case_1, case_2, case_3, case_4, case_5}

-- the place below P, with the sibling S and the nephews C and D
module _ (K : ℕ → Bool) (b : Bool) (P S : ℕ) (c : List Frame) (C D : Tree) (m : ℕ)
    (once : (s : ℕ) → occs s (frame b P (bin b C S D) ∷ c) ≤ 1) (h : Fits K (frame b P (bin b C S D) ∷ c) (suc m) false) where
  one : (s : ℕ) → hit s P + (occ s C + hit s S + occ s D) + occs s c ≤ 1
  one s = omega (arith, once s, occ_bin s b C S D)

  P≢S : P ≢ S
  P≢S = hit_zero P S (omega (arith, one P, hit_same P))

  -- colours that differ from K at P and S alone
  module _ (L : ℕ → Bool) (f : (s : ℕ) → hit s P + hit s S ≡ 0 → L s ≡ K s) where
    near_C : Keeps K L C
    near_C = keeps K L C (λ s o. f s (omega (arith, one s)))

    near_D : Keeps K L D
    near_D = keeps K L D (λ s o. f s (omega (arith, one s)))

    way : (i : ℕ) (red : Bool) → Fits K c i red → Fits L c i red
    way = fits_keep K L c (λ s o. f s (omega (arith, one s)))

  pub fits_1 : K P ≡ false → K S ≡ false → root_red K C ≡ false → root_red K D ≡ false
      → Fits (with_colour K S true) c (suc (suc m)) false × (m ≡ blacks (with_colour K S true) (bin b C S D)) × RedBlack (with_colour K S true) (bin b C S D)
  fits_1 kp ks kc kd =
      let L : ℕ → Bool = with_colour K S true in
      let f : (s : ℕ) → hit s P + hit s S ≡ 0 → L s ≡ K s = λ s z. with_colour_other K S true s (hit_zero s S (omega arith)) in
      case_1 K L b P S c m (way L f) C D kp ks kc kd (with_colour_other K S true P P≢S ∙ kp) (with_colour_same K S true) (near_C L f) (near_D L f) h

  pub fits_2 : K P ≡ false → K S ≡ true → Fits (with_colour (with_colour K P true) S false) (frame b P C ∷ frame b S D ∷ c) (suc m) false
  fits_2 kp ks =
      let L : ℕ → Bool = with_colour (with_colour K P true) S false in
      let f : (s : ℕ) → hit s P + hit s S ≡ 0 → L s ≡ K s =
      λ s z. with_colour_other (with_colour K P true) S false s (hit_zero s S (omega arith)) ∙ with_colour_other K P true s (hit_zero s P (omega arith)) in
      case_2 K L b P S c m (way L f) C D kp ks
      (with_colour_other (with_colour K P true) S false P P≢S ∙ with_colour_same K P true) (with_colour_same (with_colour K P true) S false) (near_C L f) (near_D L f) h

  pub fits_3 : K P ≡ true → K S ≡ false → root_red K C ≡ false → root_red K D ≡ false
      → Fits (with_colour (with_colour K P false) S true) (frame b P (bin b C S D) ∷ c) m false
  fits_3 kp ks kc kd =
      let L : ℕ → Bool = with_colour (with_colour K P false) S true in
      let f : (s : ℕ) → hit s P + hit s S ≡ 0 → L s ≡ K s =
      λ s z. with_colour_other (with_colour K P false) S true s (hit_zero s S (omega arith)) ∙ with_colour_other K P false s (hit_zero s P (omega arith)) in
      case_3 K L b P S c m (way L f) C D kp ks kc kd
      (with_colour_other (with_colour K P false) S true P P≢S ∙ with_colour_same K P false) (with_colour_same (with_colour K P false) S true) (near_C L f) (near_D L f) h

-- the close nephew is Q
pub fits_4 : (K : ℕ → Bool) (b : Bool) (P S : ℕ) (c : List Frame) (X : Tree) (Q : ℕ) (Y D : Tree) (m : ℕ)
    → ((s : ℕ) → occs s (frame b P (bin b (bin b X Q Y) S D) ∷ c) ≤ 1) → Fits K (frame b P (bin b (bin b X Q Y) S D) ∷ c) (suc m) false
    → K S ≡ false → K Q ≡ true → root_red K D ≡ false
    → Fits (with_colour (with_colour K Q false) S true) (frame b P (bin b X Q (bin b Y S D)) ∷ c) (suc m) false
fits_4 K b P S c X Q Y D m once h ks kq kd =
    let L : ℕ → Bool = with_colour (with_colour K Q false) S true in
    let one : (s : ℕ) → hit s P + ((occ s X + hit s Q + occ s Y) + hit s S + occ s D) + occs s c ≤ 1 =
    λ s. omega (arith, once s, occ_bin s b (bin b X Q Y) S D, occ_bin s b X Q Y) in
    let f : (s : ℕ) → hit s S + hit s Q ≡ 0 → L s ≡ K s =
    λ s z. with_colour_other _ S true s (hit_zero s S (omega arith)) ∙ with_colour_other K Q false s (hit_zero s Q (omega arith)) in
    case_4 K L b P S c m (fits_keep K L c (λ s o. f s (omega (arith, one s)))) X Q Y D ks kq kd
    (f P (omega (arith, one P, hit_same P)))
    (with_colour_same _ S true)
    (with_colour_other _ S true Q (hit_zero Q S (omega (arith, one Q, hit_same Q))) ∙ with_colour_same K Q false)
    (keeps K L X (λ s o. f s (omega (arith, one s)))) (keeps K L Y (λ s o. f s (omega (arith, one s))))
    (keeps K L D (λ s o. f s (omega (arith, one s)))) h

-- the distant nephew is Q
pub fits_5 : (K : ℕ → Bool) (b : Bool) (P S : ℕ) (c : List Frame) (C X : Tree) (Q : ℕ) (Y : Tree) (m : ℕ)
    → ((s : ℕ) → occs s (frame b P (bin b C S (bin b X Q Y)) ∷ c) ≤ 1) → Fits K (frame b P (bin b C S (bin b X Q Y)) ∷ c) (suc m) false
    → K S ≡ false → K Q ≡ true
    → Fits (with_colour (with_colour (with_colour K S (K P)) P false) Q false) (frame b P C ∷ frame b S (bin b X Q Y) ∷ c) m false
fits_5 K b P S c C X Q Y m once h ks kq =
    let L : ℕ → Bool = with_colour (with_colour (with_colour K S (K P)) P false) Q false in
    let one : (s : ℕ) → hit s P + (occ s C + hit s S + (occ s X + hit s Q + occ s Y)) + occs s c ≤ 1 =
    λ s. omega (arith, once s, occ_bin s b C S (bin b X Q Y), occ_bin s b X Q Y) in
    let f : (s : ℕ) → hit s P + hit s S + hit s Q ≡ 0 → L s ≡ K s =
    λ s z. with_colour_other _ Q false s (hit_zero s Q (omega arith)) ∙ with_colour_other _ P false s (hit_zero s P (omega arith))
    ∙ with_colour_other K S (K P) s (hit_zero s S (omega arith)) in
    case_5 K L b P S c m (fits_keep K L c (λ s o. f s (omega (arith, one s)))) C X Q Y ks kq
    (with_colour_other _ Q false P (hit_zero P Q (omega (arith, one P, hit_same P))) ∙ with_colour_same _ P false)
    (with_colour_other _ Q false S (hit_zero S Q (omega (arith, one S, hit_same S)))
    ∙ with_colour_other _ P false S (hit_zero S P (omega (arith, one S, hit_same S))) ∙ with_colour_same K S (K P))
    (with_colour_same _ Q false)
    (keeps K L C (λ s o. f s (omega (arith, one s)))) (keeps K L X (λ s o. f s (omega (arith, one s))))
    (keeps K L Y (λ s o. f s (omega (arith, one s)))) h
