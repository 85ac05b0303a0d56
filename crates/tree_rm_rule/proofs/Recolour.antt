-- Colours: the five cases of the repair. The place is short of one black: its way up wants suc m,
-- and what is there will count as m.
use mathlib.Core.Path.{◌≡◌, refl, sym, ◌∙◌}
use mathlib.Core.Bool.{Bool, true, false, false≢true}
use mathlib.Core.List.{List, ◌∷◌}
use Prim.Native.Nat.{ℕ, suc, ◌+◌}
use native.Mathlib.Omega.{arith}
use native.Mathlib.Numerals.{one-add}
use native.Mathlib.Nat.{zero-add}
use Rattle.tree.specs.Tree.{Tree}
use Rattle.tree.specs.Zipper.{bin, Frame, frame}
use Rattle.tree.specs.RedBlack.{black_of, root_red, blacks, RedBlackNode, RedBlack}
use Rattle.tree_edit.proofs.Fits.{Fits, Keeps, open_red_black, make_red_black, blacks_bin, root_bin, fits_black}

not_red : {A : Type 0} {x : Bool} → x ≡ false → x ≡ true → A
not_red p q = absurd (false≢true (sym p ∙ q))

module _ (K L : ℕ → Bool) (b : Bool) (P S : ℕ) (c : List Frame) (m : ℕ)
    (way : (i : ℕ) (red : Bool) → Fits K c i red → Fits L c i red) where
  -- black parent, black sibling, black nephews: the sibling is made red, and the place goes up
  pub case_1 : (C D : Tree) → K P ≡ false → K S ≡ false → root_red K C ≡ false → root_red K D ≡ false
      → L P ≡ false → L S ≡ true → Keeps K L C → Keeps K L D
      → Fits K (frame b P (bin b C S D) ∷ c) (suc m) false
      → Fits L c (suc (suc m)) false × (m ≡ blacks L (bin b C S D)) × RedBlack L (bin b C S D)
  case_1 C D kp ks kc kd lp ls x y h =
      let s : RedBlackNode K C S D (RedBlack K C) (RedBlack K D) = open_red_black K b C S D h.red_black in
      let e : blacks L C ≡ blacks L D = x.blacks_is ∙ s.equal_blacks ∙ sym y.blacks_is in
      let e1 : suc m ≡ black_of (K S) + blacks K C = h.equal_blacks ∙ blacks_bin K b C S D s.equal_blacks in
      let e2 : suc m ≡ 1 + blacks K C = rw ks at e1 in
      let e3 : blacks L (bin b C S D) ≡ 0 + blacks L C = rw ls at (blacks_bin L b C S D e) in (
        way (suc (suc m)) false (rw (kp, one-add) at h.rest),
        omega (arith, x.blacks_is),
        make_red_black L b C S D (record {
          no_red_red = λ q. (x.root_is ∙ kc, y.root_is ∙ kd);
          equal_blacks = e;
          left = x.red_black_is s.left;
          right = y.red_black_is s.right;
        }),
      )

  -- black parent, red sibling: the sibling comes up into the place of the parent
  pub case_2 : (C D : Tree) → K P ≡ false → K S ≡ true → L P ≡ true → L S ≡ false → Keeps K L C → Keeps K L D
      → Fits K (frame b P (bin b C S D) ∷ c) (suc m) false
      → Fits L (frame b P C ∷ frame b S D ∷ c) (suc m) false
  case_2 C D kp ks lp ls x y h =
      let s : RedBlackNode K C S D (RedBlack K C) (RedBlack K D) = open_red_black K b C S D h.red_black in
      let e1 : suc m ≡ black_of (K S) + blacks K C = h.equal_blacks ∙ blacks_bin K b C S D s.equal_blacks in
      let e2 : suc m ≡ 0 + blacks K C = rw ks at e1 in
      record {
        equal_blacks = omega (arith, x.blacks_is);
        red_black = x.red_black_is s.left;
        no_red_red = λ q. (refl, x.root_is ∙ (s.no_red_red ks).0);
        rest = rw lp (record {
          equal_blacks = omega (arith, y.blacks_is, s.equal_blacks);
          red_black = y.red_black_is s.right;
          no_red_red = not_red ls;
          rest = rw (ls, zero-add) (way (1 + suc m) false (rw kp at h.rest));
        });
      }

  -- red parent, black sibling, black nephews: parent and sibling change colours. That is the end
  pub case_3 : (C D : Tree) → K P ≡ true → K S ≡ false → root_red K C ≡ false → root_red K D ≡ false
      → L P ≡ false → L S ≡ true → Keeps K L C → Keeps K L D
      → Fits K (frame b P (bin b C S D) ∷ c) (suc m) false
      → Fits L (frame b P (bin b C S D) ∷ c) m false
  case_3 C D kp ks kc kd lp ls x y h =
      let s : RedBlackNode K C S D (RedBlack K C) (RedBlack K D) = open_red_black K b C S D h.red_black in
      let e : blacks L C ≡ blacks L D = x.blacks_is ∙ s.equal_blacks ∙ sym y.blacks_is in
      let e1 : suc m ≡ black_of (K S) + blacks K C = h.equal_blacks ∙ blacks_bin K b C S D s.equal_blacks in
      let e2 : suc m ≡ 1 + blacks K C = rw ks at e1 in
      let e3 : blacks L (bin b C S D) ≡ 0 + blacks L C = rw ls at (blacks_bin L b C S D e) in
      record {
        equal_blacks = omega (arith, x.blacks_is);
        red_black = make_red_black L b C S D (record {
          no_red_red = λ q. (x.root_is ∙ kc, y.root_is ∙ kd);
          equal_blacks = e;
          left = x.red_black_is s.left;
          right = y.red_black_is s.right;
        });
        no_red_red = not_red lp;
        rest = rw (lp, one-add) (way (suc m) false (fits_black K c (suc m) true (rw (kp, zero-add) at h.rest)));
      }

  -- black sibling, red close nephew Q, black distant one: Q comes up into the place of the sibling
  pub case_4 : (X : Tree) (Q : ℕ) (Y D : Tree) → K S ≡ false → K Q ≡ true → root_red K D ≡ false
      → L P ≡ K P → L S ≡ true → L Q ≡ false → Keeps K L X → Keeps K L Y → Keeps K L D
      → Fits K (frame b P (bin b (bin b X Q Y) S D) ∷ c) (suc m) false
      → Fits L (frame b P (bin b X Q (bin b Y S D)) ∷ c) (suc m) false
  case_4 X Q Y D ks kq kd lp ls lq x y z h =
      let s : RedBlackNode K (bin b X Q Y) S D (RedBlack K (bin b X Q Y)) (RedBlack K D) = open_red_black K b (bin b X Q Y) S D h.red_black in
      let q : RedBlackNode K X Q Y (RedBlack K X) (RedBlack K Y) = open_red_black K b X Q Y s.left in
      let e1 : suc m ≡ black_of (K S) + blacks K (bin b X Q Y) = h.equal_blacks ∙ blacks_bin K b (bin b X Q Y) S D s.equal_blacks in
      let e2 : suc m ≡ 1 + blacks K (bin b X Q Y) = rw ks at e1 in
      let e3 : blacks K (bin b X Q Y) ≡ 0 + blacks K X = rw kq at (blacks_bin K b X Q Y q.equal_blacks) in
      let f1 : blacks L Y ≡ blacks L D = omega (arith, y.blacks_is, z.blacks_is, s.equal_blacks, q.equal_blacks) in
      let f2 : blacks L (bin b Y S D) ≡ 0 + blacks L Y = rw ls at (blacks_bin L b Y S D f1) in
      let f3 : blacks L X ≡ blacks L (bin b Y S D) = omega (arith, x.blacks_is, y.blacks_is, q.equal_blacks) in
      let f4 : blacks L (bin b X Q (bin b Y S D)) ≡ 1 + blacks L X = rw lq at (blacks_bin L b X Q (bin b Y S D) f3) in
      record {
        equal_blacks = omega (arith, x.blacks_is);
        red_black = make_red_black L b X Q (bin b Y S D) (record {
          no_red_red = not_red lq;
          equal_blacks = f3;
          left = x.red_black_is q.left;
          right = make_red_black L b Y S D (record {
            no_red_red = λ o. (y.root_is ∙ (q.no_red_red kq).1, z.root_is ∙ kd);
            equal_blacks = f1;
            left = y.red_black_is q.right;
            right = z.red_black_is s.right;
          });
        });
        no_red_red = λ o. (refl, root_bin L b X Q (bin b Y S D) ∙ lq);
        rest = rw lp (way (black_of (K P) + suc m) (K P) h.rest);
      }

  -- black sibling, red distant nephew Q: the sibling comes up into the place of the parent and
  -- takes its colour. That is the end
  pub case_5 : (C X : Tree) (Q : ℕ) (Y : Tree) → K S ≡ false → K Q ≡ true
      → L P ≡ false → L S ≡ K P → L Q ≡ false → Keeps K L C → Keeps K L X → Keeps K L Y
      → Fits K (frame b P (bin b C S (bin b X Q Y)) ∷ c) (suc m) false
      → Fits L (frame b P C ∷ frame b S (bin b X Q Y) ∷ c) m false
  case_5 C X Q Y ks kq lp ls lq x y z h =
      let s : RedBlackNode K C S (bin b X Q Y) (RedBlack K C) (RedBlack K (bin b X Q Y)) = open_red_black K b C S (bin b X Q Y) h.red_black in
      let q : RedBlackNode K X Q Y (RedBlack K X) (RedBlack K Y) = open_red_black K b X Q Y s.right in
      let e1 : suc m ≡ black_of (K S) + blacks K C = h.equal_blacks ∙ blacks_bin K b C S (bin b X Q Y) s.equal_blacks in
      let e2 : suc m ≡ 1 + blacks K C = rw ks at e1 in
      let e3 : blacks K (bin b X Q Y) ≡ 0 + blacks K X = rw kq at (blacks_bin K b X Q Y q.equal_blacks) in
      let f1 : blacks L X ≡ blacks L Y = omega (arith, y.blacks_is, z.blacks_is, q.equal_blacks) in
      let f2 : blacks L (bin b X Q Y) ≡ 1 + blacks L X = rw lq at (blacks_bin L b X Q Y f1) in
      record {
        equal_blacks = omega (arith, x.blacks_is);
        red_black = x.red_black_is s.left;
        no_red_red = not_red lp;
        rest = rw lp (record {
          equal_blacks = omega (arith, y.blacks_is, s.equal_blacks);
          red_black = make_red_black L b X Q Y (record { no_red_red = not_red lq; equal_blacks = f1; left = y.red_black_is q.left; right = z.red_black_is q.right });
          no_red_red = λ o. (refl, root_bin L b X Q Y ∙ lq);
          rest = rw (ls, one-add) (way (black_of (K P) + suc m) (K P) h.rest);
        });
      }
