-- Colours at a place. `Fits K c m red`: the way up c takes a tree with m blacks on each way down,
-- whose root is red as told.
use mathlib.Core.Path.{◌≡◌, refl, sym, ◌∙◌}
use mathlib.Core.Bool.{Bool, true, false}
use mathlib.Core.List.{List, [], ◌∷◌}
use Prim.Native.Nat.{ℕ, ◌+◌, ◌<◌}
use native.Mathlib.Omega.{arith}
use Rattle.tree.specs.Tree.{Tree, occ}
use Rattle.tree.specs.Zipper.{bin, Frame, plug, occs, frame}
use Rattle.tree.specs.RedBlack.{black_of, root_red, blacks, RedBlackNode, RedBlack}
use Rattle.tree.specs.View.{datum, view}
use Rattle.tree.proofs.Slots.{hit_same}
use Rattle.tree.proofs.Views.{view_keep, blacks_view, root_red_view, red_black_view}

-- One step: s is the next slot up, `far` its other subtree, and Rest holds of the way up from s.
pub record FitStep (K : ℕ → Bool) (m : ℕ) (red : Bool) (s : ℕ) (far : Tree) (Rest : Type 0) : Type 0 where
  pub equal_blacks : m ≡ blacks K far
  pub red_black : RedBlack K far
  pub no_red_red : K s ≡ true → (red ≡ false) × (root_red K far ≡ false)
  pub rest : Rest

abbrev pub Fits : (ℕ → Bool) → List Frame → ℕ → Bool → Type 0
Fits K [] m red = red ≡ false
Fits K (frame b s far ∷ c) m red = FitStep K m red s far (Fits K c (black_of (K s) + m) (K s))

-- a tree, and a way up, whose colours stay
pub record Keeps (K L : ℕ → Bool) (t : Tree) : Type 0 where
  pub blacks_is : blacks L t ≡ blacks K t
  pub root_is : root_red L t ≡ root_red K t
  pub red_black_is : RedBlack K t → RedBlack L t

datum_colour : (K L : ℕ → Bool) (s : ℕ) → L s ≡ K s → datum [] L s ≡ datum [] K s
unfolding datum
datum_colour K L s e = rw e

pub keeps : (K L : ℕ → Bool) (t : Tree) → ((s : ℕ) → 0 < occ s t → L s ≡ K s) → Keeps K L t
keeps K L t f =
    let e : view [] L t ≡ view [] K t = view_keep [] K [] L t (λ s o. datum_colour K L s (f s o)) in
    record { blacks_is = blacks_view [] K [] L t t e; root_is = root_red_view [] K [] L t t e; red_black_is = red_black_view [] K [] L t t e }

pub fits_keep : (K L : ℕ → Bool) (c : List Frame) → ((s : ℕ) → 0 < occs s c → L s ≡ K s) → (m : ℕ) (red : Bool) → Fits K c m red → Fits L c m red
fits_keep K L [] f m red h = h
fits_keep K L (frame b s far ∷ c) f m red h =
    let e : L s ≡ K s = f s (omega (arith, hit_same s)) in
    let x : Keeps K L far = keeps K L far (λ a o. f a (omega arith)) in
    record {
      equal_blacks = h.equal_blacks ∙ sym x.blacks_is;
      red_black = x.red_black_is h.red_black;
      no_red_red = λ q. ((h.no_red_red (sym e ∙ q)).0, x.root_is ∙ (h.no_red_red (sym e ∙ q)).1);
      rest = rw e (fits_keep K L c (λ a o. f a (omega arith)) (black_of (K s) + m) (K s) h.rest);
    }

-- the two subtrees by side
pub open_red_black : (K : ℕ → Bool) (b : Bool) (x : Tree) (s : ℕ) (y : Tree) → RedBlack K (bin b x s y) → RedBlackNode K x s y (RedBlack K x) (RedBlack K y)
open_red_black K true x s y h = h
open_red_black K false x s y h =
    record { no_red_red = λ q. ((h.no_red_red q).1, (h.no_red_red q).0); equal_blacks = sym h.equal_blacks; left = h.right; right = h.left }

pub make_red_black : (K : ℕ → Bool) (b : Bool) (x : Tree) (s : ℕ) (y : Tree) → RedBlackNode K x s y (RedBlack K x) (RedBlack K y) → RedBlack K (bin b x s y)
make_red_black K true x s y h = h
make_red_black K false x s y h =
    record { no_red_red = λ q. ((h.no_red_red q).1, (h.no_red_red q).0); equal_blacks = sym h.equal_blacks; left = h.right; right = h.left }

pub blacks_bin : (K : ℕ → Bool) (b : Bool) (x : Tree) (s : ℕ) (y : Tree) → blacks K x ≡ blacks K y → blacks K (bin b x s y) ≡ black_of (K s) + blacks K x
blacks_bin K true x s y e = refl
blacks_bin K false x s y e = rw e

pub root_bin : (K : ℕ → Bool) (b : Bool) (x : Tree) (s : ℕ) (y : Tree) → root_red K (bin b x s y) ≡ K s
root_bin K true x s y = refl
root_bin K false x s y = refl

-- a tree that fits makes a whole, and the other way round
pub fits_plug : (K : ℕ → Bool) (c : List Frame) (t : Tree) → Fits K c (blacks K t) (root_red K t) → RedBlack K t
    → RedBlack K (plug c t) × (root_red K (plug c t) ≡ false)
fits_plug K [] t h q = (q, h)
fits_plug K (frame b s far ∷ c) t h q =
    fits_plug K c (bin b t s far)
    (rw (blacks_bin K b t s far h.equal_blacks, root_bin) h.rest)
    (make_red_black K b t s far (record { no_red_red = h.no_red_red; equal_blacks = h.equal_blacks; left = q; right = h.red_black }))

pub plug_fits : (K : ℕ → Bool) (c : List Frame) (t : Tree) → RedBlack K (plug c t) → root_red K (plug c t) ≡ false
    → Fits K c (blacks K t) (root_red K t) × RedBlack K t
plug_fits K [] t h q = (q, h)
plug_fits K (frame b s far ∷ c) t h q =
    let (f, o) = plug_fits K c (bin b t s far) h q in
    let x : RedBlackNode K t s far (RedBlack K t) (RedBlack K far) = open_red_black K b t s far o in
    (record { equal_blacks = x.equal_blacks; red_black = x.right; no_red_red = x.no_red_red; rest = rw (blacks_bin K b t s far x.equal_blacks, root_bin) at f }, x.left)

-- where a red root fits, a black one does
pub fits_black : (K : ℕ → Bool) (c : List Frame) (m : ℕ) (red : Bool) → Fits K c m red → Fits K c m false
fits_black K [] m red h = refl
fits_black K (frame b s far ∷ c) m red h =
    record { equal_blacks = h.equal_blacks; red_black = h.red_black; no_red_red = λ q. (refl, (h.no_red_red q).1); rest = h.rest }
