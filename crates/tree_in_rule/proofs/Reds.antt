-- Colours: trees with m blacks on each way down, and what becomes of them when a root is made black
-- or red.
use mathlib.Core.Path.{◌≡◌, sym, ◌∙◌}
use mathlib.Core.Bool.{Bool, true, false, false≢true}
use mathlib.Core.List.{List}
use Prim.Native.Nat.{ℕ, ◌+◌}
use native.Mathlib.Nat.{zero-add}
use Rattle.tree.specs.Tree.{Tree, occ}
use Rattle.tree.specs.Zipper.{bin, Frame, occs}
use Rattle.tree.specs.RedBlack.{root_red, blacks, RedBlackNode, RedBlack}
use Rattle.tree.proofs.Slots.{apart, apart_way}
use Rattle.tree_edit.proofs.Colours.{with_colour, with_colour_other}
use Rattle.tree_edit.proofs.Fits.{Fits, Keeps, keeps, fits_keep, open_red_black, make_red_black, blacks_bin, root_bin}

-- m blacks on each way down; and a root that is not red besides
pub record BlackHeight (K : ℕ → Bool) (m : ℕ) (t : Tree) : Type 0 where
  pub red_black : RedBlack K t
  pub count : blacks K t ≡ m

pub record BlackRoot (K : ℕ → Bool) (m : ℕ) (t : Tree) : Type 0 where
  pub equal_blacks : BlackHeight K m t
  pub black : root_red K t ≡ false

module _ (K : ℕ → Bool) (m : ℕ) (b : Bool) (x : Tree) (s : ℕ) (y : Tree) where
  -- below a black root any two will do, below a red one two with black roots
  pub blackened : K s ≡ false → BlackHeight K m x → BlackHeight K m y → BlackRoot K (1 + m) (bin b x s y)
  blackened e p q =
      let i : blacks K x ≡ blacks K y = p.count ∙ sym q.count in
      let j : blacks K (bin b x s y) ≡ 1 + blacks K x = rw e at (blacks_bin K b x s y i) in
      record {
        equal_blacks = record {
          red_black = make_red_black K b x s y
              (record { no_red_red = λ o. absurd (false≢true (sym e ∙ o)); equal_blacks = i; left = p.red_black; right = q.red_black });
          count = j ∙ rw p.count;
        };
        black = root_bin K b x s y ∙ e;
      }

  pub reddened : K s ≡ true → BlackRoot K m x → BlackRoot K m y → BlackHeight K m (bin b x s y)
  reddened e p q =
      let i : blacks K x ≡ blacks K y = p.equal_blacks.count ∙ sym q.equal_blacks.count in
      let j : blacks K (bin b x s y) ≡ 0 + blacks K x = rw e at (blacks_bin K b x s y i) in
      record {
        red_black = make_red_black K b x s y
            (record { no_red_red = λ o. (p.black, q.black); equal_blacks = i; left = p.equal_blacks.red_black; right = q.equal_blacks.red_black });
        count = j ∙ zero-add (blacks K x) ∙ p.equal_blacks.count;
      }

  -- the two subtrees of a red root
  pub opened : K s ≡ true → BlackHeight K m (bin b x s y) → BlackRoot K m x × BlackRoot K m y
  opened e p =
      let h : RedBlackNode K x s y (RedBlack K x) (RedBlack K y) = open_red_black K b x s y p.red_black in
      let j : blacks K (bin b x s y) ≡ 0 + blacks K x = rw e at (blacks_bin K b x s y h.equal_blacks) in
      let i : blacks K x ≡ m = sym (j ∙ zero-add (blacks K x)) ∙ p.count in (
        record { equal_blacks = record { red_black = h.left; count = i }; black = (h.no_red_red e).0 },
        record { equal_blacks = record { red_black = h.right; count = sym h.equal_blacks ∙ i }; black = (h.no_red_red e).1 },
      )

-- colours that stay
module _ (K L : ℕ → Bool) (m : ℕ) (t : Tree) (k : Keeps K L t) where
  pub keep_black_height : BlackHeight K m t → BlackHeight L m t
  keep_black_height p = record { red_black = k.red_black_is p.red_black; count = k.blacks_is ∙ p.count }

  pub keep_black_root : BlackRoot K m t → BlackRoot L m t
  keep_black_root p = record { equal_blacks = keep_black_height p.equal_blacks; black = k.root_is ∙ p.black }

-- paint on a slot that is not there
pub with_colour_keeps : (K : ℕ → Bool) (s : ℕ) (v : Bool) (t : Tree) → occ s t ≡ 0 → Keeps K (with_colour K s v) t
with_colour_keeps K s v t z = keeps K (with_colour K s v) t (λ a o. with_colour_other K s v a (apart a s t z o))

pub with_colour_fits : (K : ℕ → Bool) (s : ℕ) (v : Bool) (c : List Frame) (m : ℕ) (red : Bool) → occs s c ≡ 0 → Fits K c m red → Fits (with_colour K s v) c m red
with_colour_fits K s v c m red z = fits_keep K (with_colour K s v) c (λ a o. with_colour_other K s v a (apart_way a s c z o)) m red

-- two slots painted, and three
pub two_keeps : (K : ℕ → Bool) (s a : ℕ) (v w : Bool) (t : Tree) → occ s t ≡ 0 → occ a t ≡ 0 → Keeps K (with_colour (with_colour K s v) a w) t
two_keeps K s a v w t z y =
    keeps K (with_colour (with_colour K s v) a w) t (λ i o. with_colour_other _ a w i (apart i a t y o) ∙ with_colour_other K s v i (apart i s t z o))
